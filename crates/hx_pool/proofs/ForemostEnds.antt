-- Want of a unit counts last: where it is the foremost end, all workers ended so.
use Rattle.std.proofs.Common.{◌≤◌, List, All, arith}
use Rattle.std.specs.Prelude.{Result, Ok, Err}
use Rattle.std.proofs.lemmas.List.Elements.{All-weaker}
use Rattle.hx_limits.specs.declared.ran_out.RanOut.{RanOut}
use Rattle.hx_limits.specs.declared.ran_out.RanOut.TheVariants.{Budget, Slots, Memory}
use Rattle.hx_pool.specs.Ends.{rank, EndsSpent}

-- none of the ends comes before this one
abbrev pub IsBeforeAll : {F : Type 0} → Result F RanOut → List (Result F RanOut) → Type 0
IsBeforeAll best ends = All (λ end. rank best ≤ rank end) ends

-- want of a unit counts last
after-spent : {F : Type 0} (end other : Result F RanOut) → EndsSpent end → rank end ≤ rank other → EndsSpent other
after-spent (Ok found) other spent after = absurd spent
after-spent (Err (Budget taken)) (Ok found) spent after = absurd (omega (arith, after))
after-spent (Err (Budget taken)) (Err (Budget other)) spent after = tt
after-spent (Err (Budget taken)) (Err (Slots refusal)) spent after = absurd (omega (arith, after))
after-spent (Err (Budget taken)) (Err Memory) spent after = absurd (omega (arith, after))
after-spent (Err (Slots refusal)) other spent after = absurd spent
after-spent (Err Memory) other spent after = absurd spent

-- where want of a unit is the foremost end, all workers ended so
pub all-spent : {F : Type 0} (end : Result F RanOut) (ends : List (Result F RanOut)) → EndsSpent end → IsBeforeAll end ends
    → All EndsSpent ends
all-spent end ends spent before =
    All-weaker (λ other. rank end ≤ rank other) EndsSpent (λ other after. after-spent end other spent after) ends before
