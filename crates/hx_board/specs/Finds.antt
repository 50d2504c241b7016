-- What is found.
use Rattle.std.specs.Prelude.{MatchOption}
use Rattle.std.specs.declared.option.Option.{Option}

-- exactly what a fact holds of: a value of which it holds, and none only where it holds of no value
abbrev pub Finds : {T : Type 0} → Option T → (T → Type 0) → Type 0
Finds {T} result Fact = MatchOption result ((x : T) → Fact x → ⊥) Fact
