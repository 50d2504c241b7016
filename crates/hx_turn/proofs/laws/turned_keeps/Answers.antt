use Rattle.hx_turn.proofs.TurnedGames.{keeps_winner}
use Rattle.hx_turn.proofs.laws.turned_keeps.Goals as goal

pub returns : goal.returns
returns c turned turn = keeps_winner c.args.position.now c.args.to_move c.args.colour turned c.size-size.ensures.valid turn
