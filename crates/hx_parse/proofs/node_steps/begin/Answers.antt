use Rattle.hx_parse.proofs.WholeNodes.{begins_whole}
use Rattle.hx_parse.proofs.node_steps.begin.Goals as goal

pub returns-in-Some : goal.returns-in-Some
returns-in-Some c =
    begins_whole c.args.so_far c.args.head c.in-Some.node c.with_node.result c.in-Some.ensures c.with_node.ensures
