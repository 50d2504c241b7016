use Rattle.hx_law.proofs.WinLaws.{extra_move}
use Rattle.hx_law.proofs.winners.extra_move.Goals as goal

pub returns : goal.returns
returns c = extra_move c.args.colour c.args.position.now
