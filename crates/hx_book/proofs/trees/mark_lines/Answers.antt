use Rattle.std.proofs.Common.{◌<◌, length, arith}
use Rattle.hx_book.proofs.MarkLaws.{lines-none, line-in, lines-more}
use Rattle.hx_book.proofs.trees.mark_lines.Goals as goal

pub loop-line-init : goal.loop-line-init
loop-line-init c = lines-none c.args.lines.now c.args.marks.now.items

pub mark_line-requires : goal.mark_line-requires
mark_line-requires c = λ place names.
    let within : place < length c.args.marks.now.items =
    c.requires place (line-in c.args.lines.now c.loop-line.line-index c.line-item.result c.loop-line-test.true c.line-item.is place
    names) in
    omega (arith, within, c.loop-line.invariant.long)

pub loop-line-preserved : goal.loop-line-preserved
loop-line-preserved c =
    lines-more c.args.lines.now c.loop-line.line-index c.line-item.result c.loop-line-test.true c.line-item.is c.args.marks.now.items
    c.loop-line.marks.items c.mark_line.new.marks.items
    c.loop-line.invariant c.mark_line.ensures
