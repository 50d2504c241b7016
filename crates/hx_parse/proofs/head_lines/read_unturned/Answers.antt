-- The words begin with one of the five words of an opening that each version has, or with none.
use Rattle.std.proofs.Common.{sym, ◌∙◌}
use Rattle.hx_parse.proofs.FirstWords.{chain_reads, links_reads, move_reads, all_reads, fills_reads, no_unturned}
use Rattle.hx_parse.proofs.head_lines.read_unturned.Goals as goal

pub returns-then-takes : goal.returns-then-takes
returns-then-takes c =
    let first = c.takes.ensures.taken c.if-takes.true in
    chain_reads c.args.preamble.now _ _ _ first c.read_chain.ensures

pub returns-then-takes-2 : goal.returns-then-takes-2
returns-then-takes-2 c =
    let after_chain = c.takes.ensures.same c.if-takes.false in
    let first = sym after_chain ∙ c.takes-2.ensures.taken c.if-takes-2.true in
    links_reads c.args.preamble.now _ _ _ first c.read_links.ensures

pub returns-then-takes-3 : goal.returns-then-takes-3
returns-then-takes-3 c =
    let after_chain = c.takes.ensures.same c.if-takes.false in
    let after_links = c.takes-2.ensures.same c.if-takes-2.false in
    let first = sym after_chain ∙ sym after_links
    ∙ c.takes-3.ensures.taken c.if-takes-3.true in
    move_reads c.args.preamble.now _ _ _ first c.read_move.ensures

pub returns-then-takes-4 : goal.returns-then-takes-4
returns-then-takes-4 c =
    let after_chain = c.takes.ensures.same c.if-takes.false in
    let after_links = c.takes-2.ensures.same c.if-takes-2.false in
    let after_move = c.takes-3.ensures.same c.if-takes-3.false in
    let first = sym after_chain ∙ sym after_links ∙ sym after_move
    ∙ c.takes-4.ensures.taken c.if-takes-4.true in
    all_reads c.args.preamble.now _ _ _ first c.read_all.ensures

pub returns-then-takes-5 : goal.returns-then-takes-5
returns-then-takes-5 c =
    let after_chain = c.takes.ensures.same c.if-takes.false in
    let after_links = c.takes-2.ensures.same c.if-takes-2.false in
    let after_move = c.takes-3.ensures.same c.if-takes-3.false in
    let after_all = c.takes-4.ensures.same c.if-takes-4.false in
    let first = sym after_chain ∙ sym after_links ∙ sym after_move ∙ sym after_all
    ∙ c.takes-5.ensures.taken c.if-takes-5.true in
    fills_reads c.args.preamble.now _ _ _ first c.read_fills.ensures

pub returns : goal.returns
returns c = λ value fits e.
    let after_chain = c.takes.ensures.same c.if-takes.false in
    let after_links = c.takes-2.ensures.same c.if-takes-2.false in
    let after_move = c.takes-3.ensures.same c.if-takes-3.false in
    let after_all = c.takes-4.ensures.same c.if-takes-4.false in
    no_unturned (c.takes.ensures.missing c.if-takes.false)
    (λ rest f. c.takes-2.ensures.missing c.if-takes-2.false rest (after_chain ∙ f))
    (λ rest f. c.takes-3.ensures.missing c.if-takes-3.false rest (after_links ∙ after_chain ∙ f))
    (λ rest f. c.takes-4.ensures.missing c.if-takes-4.false rest (after_move ∙ after_links ∙ after_chain ∙ f))
    (λ rest f. c.takes-5.ensures.missing c.if-takes-5.false rest (after_all ∙ after_move ∙ after_links ∙ after_chain ∙ f))
    c.args.preamble.now value fits e
