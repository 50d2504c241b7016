use Rattle.hx_inferior.proofs.PairLaws.{pair-a_empty}
use Rattle.hx_inferior.proofs.fills.after_fill.Goals as goal

pub with-with_a-requires : goal.with-with_a-requires
with-with_a-requires c = pair-a_empty c.args.position.now c.args.winner c.in-Pair.a c.in-Pair.b (rw c.in-Pair.is at c.requires)
