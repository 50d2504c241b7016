use Rattle.std.proofs.Common.{refl, sym, subst}
use Rattle.hx_play.specs.Standings.{IsAtNode, FitsStage}
use Rattle.hx_play.proofs.StandLaws.{links_right, move_right, starts_at_links}
use Rattle.hx_play.proofs.ReplyLaws.{moved_to_child}
use Rattle.hx_play.proofs.stands.move_at_node.Goals as goal

pub start_by_link-requires-clause-starts : goal.start_by_link-requires-clause-starts
start_by_link-requires-clause-starts c =
    let at : IsAtNode c.node_of-node.result.now c.args.stand.now =
    subst (FitsStage c.node_of-node.result.now c.args.stand.now) c.requires.stage c.node_of-node.ensures.stage in
    rw c.items-steps.ensures
    (starts_at_links c.node_of-node.result.now _ c.in-Links.steps c.in-Links.is
    (links_right c.args.nodes.now c.args.stand.now c.node_of-node.result.now c.node_of-node.ensures.is_in c.in-Links.steps c.in-Links.is)
    (sym at.same_position) (rw c.items-steps.ensures at c.enter_links.ensures.right) c.enter_links.ensures.none)

pub returns-in-Move : goal.returns-in-Move
returns-in-Move c =
    let at : IsAtNode c.node_of-node.result.now c.args.stand.now =
    subst (FitsStage c.node_of-node.result.now c.args.stand.now) c.requires.stage c.node_of-node.ensures.stage in
    moved_to_child c.args.nodes.now c.node_of-node.result.now c.args.stand.now _ c.in-Move.cell c.in-Move.child
    c.node_of-node.ensures.is_in at
    (move_right c.args.nodes.now c.args.stand.now c.node_of-node.result.now c.node_of-node.ensures.is_in c.in-Move.cell c.in-Move.child
    c.in-Move.is)
    refl c.other-stand.ensures refl c.requires.stage refl refl c.play.ensures
