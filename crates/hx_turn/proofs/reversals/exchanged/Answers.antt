use Rattle.hx_turn.proofs.Exchanges.{has-exchanged}
use Rattle.hx_turn.proofs.reversals.exchanged.Goals as goal

pub returns : goal.returns
returns c n less = has-exchanged c.args.bits c.args.low c.args.half n c.requires.some c.requires.low less
