use Rattle.std.proofs.Common.{take}
use Rattle.hx_fill.proofs.LineLaws.{AreWithout}
use Rattle.hx_fill.proofs.tried_cells.without_lines.Given as goal

abbrev pub invariant-loop-line : goal.invariant-loop-line
invariant-loop-line l = AreWithout l.fn.cells l.left (take l.line-index l.lines)
