-- What is so of a run that came to no answer, by its status.
use Rattle.std.proofs.Common.{◌≡◌, ◌⊎◌, ℕ, inl, inr, ⊎_elim, List, refl, sym, ap, ◌∙◌, subst, arith}
use Rattle.std.specs.Prelude.{Option}
use Rattle.hx_io.specs.Sinks.{append}
use Rattle.hx_limits.specs.declared.settings.Settings.{Settings}
use Rattle.hx_limits.specs.declared.ran_out.RanOut.{RanOut}
use Rattle.hx_limits.specs.declared.ran_out.RanOut.TheVariants.{Budget, Slots, Memory}
use Rattle.hx_limits.specs.Causes.{LacksMemory}
use Rattle.hx_limits.specs.Tallies.{Tallied}
use Rattle.hx_answers.specs.Texts.{out_of_memory_line, unknown_budget_line, unknown_proofs_line}
use Rattle.hx_finish.specs.declared.wanting.Wanting.{Wanting}
use Rattle.hx_finish.specs.declared.wanting.Wanting.TheVariants.{UnknownBudget, UnknownProofs, OutOfMemory}
use Rattle.hx_finish.specs.Wants.{wanting_text, wanting_status, wanting_tally, IsWantingWhere, Tells}
use Rattle.hx_finish.specs.Finishes.{SaysUnknown}

wanting_is : (settings : Settings) (cause : Type 0) (wanting is : Wanting) → wanting ≡ is → IsWantingWhere settings cause is
    → IsWantingWhere settings cause wanting
wanting_is settings cause wanting is same due = subst (IsWantingWhere settings cause) (sym same) due

-- what was wanting is told, and where it was no memory, this is so
pub wanting_where : (settings : Settings) (cause : Type 0) (why : RanOut) (wanting : Wanting) → Tells settings why wanting
    → ((LacksMemory why → ⊥) → cause) → IsWantingWhere settings cause wanting
wanting_where settings cause (Budget taken) wanting tells is =
    wanting_is settings cause wanting (UnknownBudget settings.budget) tells (refl, is (λ lacks. lacks))
wanting_where settings cause (Slots refusal) wanting tells is =
    wanting_is settings cause wanting (UnknownProofs settings.slots) tells (refl, is (λ lacks. lacks))
wanting_where settings cause Memory wanting tells is = wanting_is settings cause wanting OutOfMemory tells tt

module _ (settings : Settings) (cause : Type 0) (before now : Option (List ℕ)) (tally : Tallied) where
  -- with status 3 there is a cause, and a refusal was counted
  pub wanting_unknown : (wanting : Wanting) → wanting_status wanting ≡ 3 → IsWantingWhere settings cause wanting → now ≡ append before (wanting_text wanting)
      → tally ≡ wanting_tally settings wanting → cause × SaysUnknown settings before now tally
  wanting_unknown (UnknownBudget budget) three due written counted = (
    due.1,
    inl (written ∙ ap (λ (n : ℕ). append before (unknown_budget_line n)) due.0, rw counted refl),
  )
  wanting_unknown (UnknownProofs slots) three due written counted = (
    due.1,
    inr (written ∙ ap (λ (n : ℕ). append before (unknown_proofs_line n)) due.0, rw counted refl),
  )
  wanting_unknown OutOfMemory three due written counted = absurd (omega arith)

  -- with status 7 memory was wanting
  pub wanting_memory : (wanting : Wanting) → wanting_status wanting ≡ 7 → now ≡ append before (wanting_text wanting) → now ≡ append before out_of_memory_line
  wanting_memory (UnknownBudget budget) seven written = absurd (omega arith)
  wanting_memory (UnknownProofs slots) seven written = absurd (omega arith)
  wanting_memory OutOfMemory seven written = written

-- where there can be no cause, memory was wanting
pub wanting_without_cause : (settings : Settings) (cause : Type 0) (wanting : Wanting) → (cause → ⊥) → IsWantingWhere settings cause wanting
    → wanting_status wanting ≡ 7
wanting_without_cause settings cause (UnknownBudget budget) none due = absurd (none due.1)
wanting_without_cause settings cause (UnknownProofs slots) none due = absurd (none due.1)
wanting_without_cause settings cause OutOfMemory none due = refl

-- it ends with 3 or 7
pub wanting_status-3_or_7 : (wanting : Wanting) → (wanting_status wanting ≡ 3) ⊎ (wanting_status wanting ≡ 7)
wanting_status-3_or_7 (UnknownBudget budget) = inl refl
wanting_status-3_or_7 (UnknownProofs slots) = inl refl
wanting_status-3_or_7 OutOfMemory = inr refl

pub wanting_status-not : (wanting : Wanting) (status : ℕ) → (3 ≡ status → ⊥) → (7 ≡ status → ⊥) → wanting_status wanting ≡ status → ⊥
wanting_status-not wanting status not_3 not_7 is =
    ⊎_elim (λ three. not_3 (sym three ∙ is)) (λ seven. not_7 (sym seven ∙ is)) (wanting_status-3_or_7 wanting)
