use Rattle.hx_turn.proofs.TurnedGraphs.{keeps_joined}
use Rattle.hx_turn.proofs.laws.turned_joins.Goals as goal

pub returns : goal.returns
returns c turned turn = keeps_joined c.args.position.now c.args.colour turned c.size-size.ensures.valid turn
