use Rattle.std.proofs.Common.{rules}
use Rattle.hx_board.proofs.TouchingLaws.{neighbours-touch}
use Rattle.hx_board.proofs.touching.neighbours.Goals as goal

pub returns-clause-ordered : goal.returns-clause-ordered
returns-clause-ordered c = search rules

pub returns-clause-touching : goal.returns-clause-touching
returns-clause-touching c = rw (returns-clause-ordered c) (neighbours-touch c.args.size c.args.cell c.rows.ensures.valid c.requires)
