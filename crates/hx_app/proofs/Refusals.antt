-- What is no position is refused: each status but 4 and those of faults is that of a position, or of an input that is
-- above the limit.
use Rattle.std.proofs.Common.{◌≡◌, ◌⊎◌, ℕ, ◌≤◌, inl, inr, ⊎_elim, List, length, Bool, arith}
use Rattle.std.specs.Prelude.{Option, None, Some, IfSome}
use Rattle.std.proofs.lemmas.Bool.{cases_lt}
use Rattle.hx_lines.specs.Lines.{longest}
use Rattle.hx_limits.specs.declared.settings.Settings.{Settings}
use Rattle.hx_answers.specs.Endings.{IsUnlessStopped}
use Rattle.hx_cmd_check.proofs.Refusals.{stopped}
use Rattle.hx_finish.specs.declared.finishes.Finish.{Finish}
use Rattle.hx_cmd_solve.specs.Positions.{IsNoPosition}
use Rattle.hx_cmd_solve.specs.Promises.{Answers}

pub no_position_refused : (settings : Settings) (plain_tree : Bool) (left before now : Option (List ℕ)) (finish : Finish)
    → IfSome left (λ input. Answers settings plain_tree input before now finish)
    → (finish.status ≡ 0) ⊎ ((3 ≤ finish.status) × (finish.status ≤ 8))
    → IfSome left (λ input. length input ≤ longest → IsNoPosition input → IsUnlessStopped finish.status 4)
no_position_refused settings plain_tree None before now finish answers status = tt
no_position_refused settings plain_tree (Some input) before now finish answers status = λ short none. by short none status
  where
    at_3 : IsNoPosition input → finish.status ≡ 3 → ⊥
    at_3 none three = let is = answers.unknown three in none is.board is.mover is.text

    by : length input ≤ longest → IsNoPosition input → (finish.status ≡ 0) ⊎ ((3 ≤ finish.status) × (finish.status ≤ 8))
        → IsUnlessStopped finish.status 4
    by short none (inl zero) =
        let is = answers.solved zero in absurd (none is.root.heading.position is.root.heading.to_move is.text)
    by short none (inr some) =
        ⊎_elim (λ three. absurd (at_3 none (omega (arith, some.0, three))))
        (λ four. ⊎_elim (λ less. inl (omega (arith, four, less)))
        (λ five. ⊎_elim (λ less. inr (stopped finish.status five less))
        (λ eight. absurd (omega (arith, short, answers.too_long (omega (arith, some.1, eight)))))
        (cases_lt finish.status 8))
        (cases_lt finish.status 5))
        (cases_lt finish.status 4)
