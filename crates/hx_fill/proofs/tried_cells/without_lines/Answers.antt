use Rattle.std.proofs.lemmas.List.{take_all}
use Rattle.hx_fill.proofs.LineLaws.{one_line-more}
use Rattle.hx_fill.proofs.tried_cells.without_lines.Goals as goal

pub loop-line-preserved : goal.loop-line-preserved
loop-line-preserved c =
    rw (c.without-left.ensures.set, c.cell.ensures)
    (one_line-more c.args.cells c.loop-line.left c.loop-line.line-index c.args.lines.now c.line-item.result
    c.loop-line-test.true c.line-item.is c.loop-line.invariant)

pub returns-clause-kept : goal.returns-clause-kept
returns-clause-kept c = rw (take_all c.loop-line.line-index c.args.lines.now c.loop-line-test.false) at c.loop-line.invariant.kept
