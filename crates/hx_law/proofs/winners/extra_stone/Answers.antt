use Rattle.hx_law.proofs.WinLaws.{extra_stone}
use Rattle.hx_law.proofs.winners.extra_stone.Goals as goal

pub returns : goal.returns
returns c = extra_stone c.args.colour c.args.position.now c.args.to_move c.args.cell
