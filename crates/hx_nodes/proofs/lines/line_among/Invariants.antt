use Rattle.std.proofs.Common.{take}
use Rattle.std.specs.Prelude.{Contains}
use Rattle.hx_tree.specs.Answers.{cells_of}
use Rattle.hx_nodes.proofs.lines.line_among.Given as goal

abbrev pub invariant-loop-line : goal.invariant-loop-line
invariant-loop-line l = ¬ Contains (cells_of (take l.line-index l.lines)) l.cell
