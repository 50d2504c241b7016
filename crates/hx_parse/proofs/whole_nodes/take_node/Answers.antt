use Rattle.std.proofs.Common.{arith}
use Rattle.hx_parse.proofs.WholeNodes.{stands_whole}
use Rattle.hx_parse.proofs.whole_nodes.take_node.Goals as goal

pub returns-clause-yes : goal.returns-clause-yes
returns-clause-yes c = λ nodes lines stands. (
  (λ after. cc),
  stands_whole _ _ c.in-Some.head c.in-Some-whole_node.node c.args.line.now nodes lines stands
      (omega (arith, c.if-so_far-ge-MOST_NODES.false))
      c.in-Some.ensures.0 c.in-Some.ensures.1 c.in-Some-whole_node.ensures c.add.ensures,
)
