-- No line before the place has a child for the cell.
use Rattle.std.proofs.Common.{◌≡◌, ℕ, take}
use Rattle.std.specs.Prelude.{Contains}
use Rattle.hx_tree.specs.declared.nodes.Line.{Line}
use Rattle.hx_tree.specs.declared.nodes.Line.TheVariants.{Child}
use Rattle.hx_play.proofs.stands.child_for.Given as goal

abbrev pub invariant-loop-line : goal.invariant-loop-line
invariant-loop-line l = (line : Line) → Contains (take l.line-index l.lines) line → (child : ℕ) → line ≡ Child l.cell child → ⊥
