-- The cells of the lines before the place that have a child.
use Rattle.std.proofs.Common.{◌≡◌, ◌↔◌, ℕ, true, take}
use Rattle.hx_board.specs.Sets.{has}
use Rattle.hx_tree.specs.Answers.{HasChild}
use Rattle.hx_tree.proofs.answers.cells_with_child.Given as goal

abbrev pub invariant-loop-line : goal.invariant-loop-line
invariant-loop-line l = (n : ℕ) → (has l.answered n ≡ true) ↔ HasChild (take l.line-index l.lines) n
