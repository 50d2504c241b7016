-- The words begin with one of the four words of a step, or with none.
use Rattle.std.proofs.Common.{sym, ◌∙◌, true, false}
use Rattle.hx_board.specs.declared.Memory.{Memory}
use Rattle.hx_parse.proofs.FirstWords.{base_reads, and_reads, or_reads, or_memory, no_step}
use Rattle.hx_parse.proofs.step_lines.read_words.Goals as goal

pub returns-then-takes-clause-reads : goal.returns-then-takes-clause-reads
returns-then-takes-clause-reads c =
    let first = c.takes.ensures.taken c.if-takes.true in
    base_reads c.args.size _ _ _ first c.read_base.ensures

pub returns-then-takes-2-clause-reads : goal.returns-then-takes-2-clause-reads
returns-then-takes-2-clause-reads c =
    let after_base = c.takes.ensures.same c.if-takes.false in
    let first = sym after_base ∙ c.takes-2.ensures.taken c.if-takes-2.true in
    and_reads true c.args.size _ _ _ first c.read_stone.ensures

pub returns-then-takes-3-clause-reads : goal.returns-then-takes-3-clause-reads
returns-then-takes-3-clause-reads c =
    let after_base = c.takes.ensures.same c.if-takes.false in
    let after_stone = c.takes-2.ensures.same c.if-takes-2.false in
    let first = sym after_base ∙ sym after_stone
    ∙ c.takes-3.ensures.taken c.if-takes-3.true in
    and_reads false c.args.size _ _ _ first c.read_cell.ensures

pub returns-then-takes-4-clause-reads : goal.returns-then-takes-4-clause-reads
returns-then-takes-4-clause-reads c =
    let after_base = c.takes.ensures.same c.if-takes.false in
    let after_stone = c.takes-2.ensures.same c.if-takes-2.false in
    let after_cell = c.takes-3.ensures.same c.if-takes-3.false in
    let first = sym after_base ∙ sym after_stone ∙ sym after_cell
    ∙ c.takes-4.ensures.taken c.if-takes-4.true in
    or_reads {E = Memory} c.args.size _ _ _ first c.read_or.ensures.reads

pub returns-clause-reads : goal.returns-clause-reads
returns-clause-reads c = λ value fits e.
    let after_base = c.takes.ensures.same c.if-takes.false in
    let after_stone = c.takes-2.ensures.same c.if-takes-2.false in
    let after_cell = c.takes-3.ensures.same c.if-takes-3.false in
    no_step (c.takes.ensures.missing c.if-takes.false)
    (λ rest f. c.takes-2.ensures.missing c.if-takes-2.false rest (after_base ∙ f))
    (λ rest f. c.takes-3.ensures.missing c.if-takes-3.false rest (after_stone ∙ after_base ∙ f))
    (λ rest f. c.takes-4.ensures.missing c.if-takes-4.false rest (after_cell ∙ after_stone ∙ after_base ∙ f)) value e

pub returns-then-takes-4-clause-memory : goal.returns-then-takes-4-clause-memory
returns-then-takes-4-clause-memory c =
    let after_base = c.takes.ensures.same c.if-takes.false in
    let after_stone = c.takes-2.ensures.same c.if-takes-2.false in
    let after_cell = c.takes-3.ensures.same c.if-takes-3.false in
    let first = sym after_base ∙ sym after_stone ∙ sym after_cell
    ∙ c.takes-4.ensures.taken c.if-takes-4.true in
    or_memory _ _ _ first c.read_or.ensures.memory
