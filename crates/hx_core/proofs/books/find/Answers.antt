use Rattle.std.proofs.Common.{sym, ◌∙◌}
use Rattle.std.proofs.lemmas.Bool.{false≢true}
use Rattle.hx_core.proofs.EntryReads.{read-found, read-more, read-all}
use Rattle.hx_core.proofs.books.find.Goals as goal

pub returns-then-is_of : goal.returns-then-is_of
returns-then-is_of c =
    read-found c.args.nodes.now c.args.position.now c.args.to_move c.loop-index.index c.loop-index.invariant c.index-nodes-index.result
    c.loop-index-test.true c.index-nodes-index.is
    (c.is_of.ensures.0 c.if-is_of.true)

pub loop-index-preserved : goal.loop-index-preserved
loop-index-preserved c =
    read-more c.args.nodes.now c.args.position.now c.args.to_move c.loop-index.index c.loop-index.invariant c.index-nodes-index.result
    c.loop-index-test.true c.index-nodes-index.is
    (λ is. false≢true (sym c.if-is_of.false ∙ c.is_of.ensures.1 is))

pub returns : goal.returns
returns c = read-all c.args.nodes.now c.args.position.now c.args.to_move c.loop-index.index c.loop-index.invariant c.loop-index-test.false
