-- Where nothing is missing the node is whole.
use Rattle.std.proofs.Common.{arith, ap}
use Rattle.hx_tree.specs.declared.nodes.Rule.{Rule}
use Rattle.hx_tree.specs.declared.nodes.Node.{Node}
use Rattle.hx_parse.proofs.BegunSteps.{settled_whole}
use Rattle.hx_parse.proofs.node_steps.settled.Goals as goal

pub returns : goal.returns
returns c =
    settled_whole c.args.begun _ _ (omega arith)
    (ap (λ (r : Rule). let n : Node = record { heading = c.args.begun.head.heading; rule = r } in n) c.rule_of-rule.ensures)
    c.with_node.ensures
