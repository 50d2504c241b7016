-- What is so of any input is so of the one that a source tells.
use Rattle.std.proofs.Common.{ℕ, List}
use Rattle.std.specs.Prelude.{Option, None, Some, IfSome}

pub of_any : (left : Option (List ℕ)) (Says : List ℕ → Type 0) → ((input : List ℕ) → Says input) → IfSome left Says
of_any None Says says = tt
of_any (Some input) Says says = says input
