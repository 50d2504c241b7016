use Rattle.hx_nodes.proofs.LinkNodes.{decided_right}
use Rattle.hx_nodes.proofs.links.store_links.Goals as goal

pub store-requires-clause-right : goal.store-requires-clause-right
store-requires-clause-right g c =
    rw (c.position.ensures, c.colour.ensures)
    (decided_right c.args.set.now c.keeps.ensures.right _ c.args.to_move c.args.index _ _ c.requires c.keeps.ensures.few
    c.in_ok-steps.ensures)
