-- What is no proof is refused: each status but 1 and those of faults is that of a valid tree, or of an input above a
-- limit.
use Rattle.std.proofs.Common.{◌≡◌, ◌⊎◌, ℕ, ◌<◌, ◌≤◌, inl, inr, ⊎_elim, List, arith}
use Rattle.std.specs.Prelude.{Option, None, Some, IfSome}
use Rattle.std.proofs.lemmas.Bool.{cases_lt}
use Rattle.hx_answers.specs.Endings.{IsStopped, IsUnlessStopped}
use Rattle.hx_cmd_check.specs.Judging.{NodesAreRight}
use Rattle.hx_cmd_check.specs.Judgements.{IsLong}
use Rattle.hx_cmd_check.specs.Promises.{IsNoProof, Answers}

-- the statuses of faults
pub stopped : (status : ℕ) → 5 ≤ status → status < 8 → IsStopped status
stopped status least most =
    ⊎_elim (λ five. inl (omega (arith, least, five)))
    (λ more. ⊎_elim (λ six. inr (inl (omega (arith, more, six)))) (λ seven. inr (inr (omega (arith, most, seven)))) (cases_lt status 7))
    (cases_lt status 6)

pub no_proof_refused : (left before now : Option (List ℕ)) (status : ℕ) → IfSome left (λ input. Answers input before now status)
    → (status ≤ 1) ⊎ ((5 ≤ status) × (status ≤ 8))
    → IfSome left (λ input. ¬ IsLong NodesAreRight input → IsNoProof input → IsUnlessStopped status 1)
no_proof_refused None before now status answers some = tt
no_proof_refused (Some input) before now status answers some = λ within none. by within none some
  where
    at_0 : IsNoProof input → status ≡ 0 → ⊥
    at_0 none zero = let is = answers.yes zero in none is.nodes is.text is.valid

    by : ¬ IsLong NodesAreRight input → IsNoProof input → (status ≤ 1) ⊎ ((5 ≤ status) × (status ≤ 8)) → IsUnlessStopped status 1
    by within none (inl few) =
        ⊎_elim (λ zero. absurd (at_0 none (omega (arith, zero)))) (λ one. inl (omega (arith, few, one))) (cases_lt status 1)
    by within none (inr more) =
        ⊎_elim (λ less. inr (stopped status more.0 less)) (λ eight. absurd (within (answers.too_long (omega (arith, more.1, eight)))))
        (cases_lt status 8)
