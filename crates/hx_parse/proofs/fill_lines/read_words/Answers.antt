-- The words begin with one of the three words of a fill step, or with none.
use Rattle.std.proofs.Common.{sym, ◌∙◌, true, false}
use Rattle.hx_parse.proofs.FillReads.{one_reads, pair_reads, no_fill_step}
use Rattle.hx_parse.proofs.fill_lines.read_words.Goals as goal

pub returns-then-takes : goal.returns-then-takes
returns-then-takes c =
    one_reads false c.args.size _ _ _ (c.takes.ensures.taken c.if-takes.true) c.read_other.ensures

pub returns-then-takes-2 : goal.returns-then-takes-2
returns-then-takes-2 c =
    let after_other = c.takes.ensures.same c.if-takes.false in
    one_reads true c.args.size _ _ _
    (sym after_other ∙ c.takes-2.ensures.taken c.if-takes-2.true) c.read_dead.ensures

pub returns-then-takes-3 : goal.returns-then-takes-3
returns-then-takes-3 c =
    let after_other = c.takes.ensures.same c.if-takes.false in
    let after_dead = c.takes-2.ensures.same c.if-takes-2.false in
    pair_reads c.args.size _ _ _
    (sym after_other ∙ sym after_dead
    ∙ c.takes-3.ensures.taken c.if-takes-3.true) c.read_pair.ensures

pub returns : goal.returns
returns c = λ value fits e.
    let after_other = c.takes.ensures.same c.if-takes.false in
    let after_dead = c.takes-2.ensures.same c.if-takes-2.false in
    no_fill_step (c.takes.ensures.missing c.if-takes.false)
    (λ rest f. c.takes-2.ensures.missing c.if-takes-2.false rest (after_other ∙ f))
    (λ rest f. c.takes-3.ensures.missing c.if-takes-3.false rest (after_dead ∙ after_other ∙ f)) value e
