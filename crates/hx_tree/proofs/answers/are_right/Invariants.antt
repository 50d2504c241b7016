-- The lines before the place are right given the set.
use Rattle.std.proofs.Common.{ℕ, ◌<◌, slice_get, IfSome}
use Rattle.hx_tree.specs.Named.{IsRightGiven}
use Rattle.hx_tree.proofs.answers.are_right.Given as goal

abbrev pub invariant-loop-line : goal.invariant-loop-line
invariant-loop-line l = (k : ℕ) → k < l.line-index → IfSome (slice_get l.lines k) (IsRightGiven l.before l.heading l.fn.lost)
