-- The order in which the ends of workers count.
use Rattle.std.specs.Prelude.{ℕ, Result, Ok, Err}
use Rattle.hx_limits.specs.declared.ran_out.RanOut.{RanOut}
use Rattle.hx_limits.specs.declared.ran_out.RanOut.TheVariants.{Budget, Slots, Memory}
use Rattle.hx_limits.specs.Causes.{LacksUnit}

-- what was found, then want of memory, of a slot, of a unit
abbrev pub rank : {F : Type 0} → Result F RanOut → ℕ
rank (Ok found) = 0
rank (Err Memory) = 1
rank (Err (Slots refusal)) = 2
rank (Err (Budget taken)) = 3

-- the units ran out
abbrev pub EndsSpent : {F : Type 0} → Result F RanOut → Type 0
EndsSpent (Ok found) = ⊥
EndsSpent (Err why) = LacksUnit why
