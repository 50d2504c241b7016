use Rattle.hx_solve.proofs.FoundWinners.{other-does_not}
use Rattle.hx_solve.proofs.winners.winner.Goals as goal

pub returns-then-is_small-clause-loser : goal.returns-then-is_small-clause-loser
returns-then-is_small-clause-loser g c =
    other-does_not c.args.position.now c.args.to_move c.winner.result c.one_winner.ensures c.winner.ensures.wins
