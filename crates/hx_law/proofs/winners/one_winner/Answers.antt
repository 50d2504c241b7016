use Rattle.hx_law.proofs.OneWinner.{one_winner}
use Rattle.hx_law.proofs.winners.one_winner.Goals as goal

pub returns : goal.returns
returns c = one_winner c.args.position.now c.size-size.ensures.valid c.args.to_move
