-- The words begin with one of the three words of a reason, or with none.
use Rattle.std.proofs.Common.{sym, ◌∙◌}
use Rattle.hx_parse.proofs.AnswerReads.{child_reads, dead_reads, pair_reads, no_reason}
use Rattle.hx_parse.proofs.answer_lines.read_reason.Goals as goal

pub returns-then-takes : goal.returns-then-takes
returns-then-takes c =
    child_reads c.args.size c.args.cell _ _ _
    (c.takes.ensures.taken c.if-takes.true) c.read_child.ensures

pub returns-then-takes-2 : goal.returns-then-takes-2
returns-then-takes-2 c =
    let after_child = c.takes.ensures.same c.if-takes.false in
    dead_reads c.args.size c.args.cell _ _ _
    (sym after_child ∙ c.takes-2.ensures.taken c.if-takes-2.true) c.read_dead.ensures

pub returns-then-takes-3 : goal.returns-then-takes-3
returns-then-takes-3 c =
    let after_child = c.takes.ensures.same c.if-takes.false in
    let after_dead = c.takes-2.ensures.same c.if-takes-2.false in
    pair_reads c.args.size c.args.cell _ _ _
    (sym after_child ∙ sym after_dead
    ∙ c.takes-3.ensures.taken c.if-takes-3.true) c.read_pair.ensures

pub returns : goal.returns
returns c = λ value fits e.
    let after_child = c.takes.ensures.same c.if-takes.false in
    let after_dead = c.takes-2.ensures.same c.if-takes-2.false in
    no_reason (c.takes.ensures.missing c.if-takes.false)
    (λ rest f. c.takes-2.ensures.missing c.if-takes-2.false rest (after_child ∙ f))
    (λ rest f. c.takes-3.ensures.missing c.if-takes-3.false rest (after_dead ∙ after_child ∙ f)) value e
