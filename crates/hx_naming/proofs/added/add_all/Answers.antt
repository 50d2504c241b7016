use Rattle.std.proofs.Common.{rules}
use Rattle.hx_naming.proofs.MoreLaws.{more-on}
use Rattle.hx_naming.proofs.added.add_all.Goals as goal

pub returns-then-is_none-clause-more : goal.returns-then-is_none-clause-more
returns-then-is_none-clause-more c = more-on c.loop-node.invariant.2 c.add.ensures.more

pub loop-node-preserved : goal.loop-node-preserved
loop-node-preserved c = (tt, tt, more-on c.loop-node.invariant.2 c.add.ensures.more, search rules)
