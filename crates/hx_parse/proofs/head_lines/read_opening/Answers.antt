use Rattle.std.proofs.Common.{sym, ◌∙◌}
use Rattle.hx_parse.proofs.FirstWords.{turned_reads, unturned_reads}
use Rattle.hx_parse.proofs.head_lines.read_opening.Goals as goal

pub returns-then-takes : goal.returns-then-takes
returns-then-takes c =
    turned_reads c.args.preamble.now _ _ _ (c.takes.ensures.taken c.if-takes.true)
    c.read_turned.ensures

pub returns : goal.returns
returns c =
    unturned_reads c.args.preamble.now _ _ _ (c.takes.ensures.missing c.if-takes.false)
    (c.takes.ensures.same c.if-takes.false) c.read_unturned.ensures
