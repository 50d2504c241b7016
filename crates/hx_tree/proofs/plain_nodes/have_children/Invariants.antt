use Rattle.std.proofs.Common.{ℕ, ◌<◌}
use Rattle.std.specs.Prelude.{slice_get, IfSome}
use Rattle.hx_tree.specs.Plain.{IsChildLine}
use Rattle.hx_tree.proofs.plain_nodes.have_children.Given as goal

abbrev pub invariant-loop-line : goal.invariant-loop-line
invariant-loop-line l = (k : ℕ) → k < l.line-index → IfSome (slice_get l.lines k) IsChildLine
