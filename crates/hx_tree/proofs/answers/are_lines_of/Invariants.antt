-- The lines before the place are taken.
use Rattle.hx_tree.specs.Answers.{cells_of}
use Rattle.hx_tree.proofs.CellOrder.{AreTaken}
use Rattle.hx_tree.proofs.answers.are_lines_of.Given as goal

abbrev pub invariant-loop-line : goal.invariant-loop-line
invariant-loop-line l = AreTaken (cells_of l.lines) l.line-index l.answered l.first_free
