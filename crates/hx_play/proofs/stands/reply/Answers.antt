use Rattle.std.proofs.Common.{subst}
use Rattle.hx_play.specs.Standings.{FitsStage}
use Rattle.hx_play.proofs.stands.reply.Goals as goal

pub reply_at_node-requires-clause-is_at : goal.reply_at_node-requires-clause-is_at
reply_at_node-requires-clause-is_at c =
    subst (FitsStage c.node_of-node.result.now c.args.stand.now) c.in-AtNode.is c.node_of-node.ensures.stage

pub reply_in_links-requires-clause-keeps : goal.reply_in_links-requires-clause-keeps
reply_in_links-requires-clause-keeps c =
    subst (FitsStage c.node_of-node.result.now c.args.stand.now) c.in-InLinks.is c.node_of-node.ensures.stage
