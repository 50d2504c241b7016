use Rattle.hx_solve.proofs.TreeSolutions.{sweep-solves}
use Rattle.hx_solve.proofs.PlainSweeps.{moves-plain}
use Rattle.hx_solve.proofs.small_positions.by_sweep.Goals as goal

pub returns-clause-tree : goal.returns-clause-tree
returns-clause-tree c = sweep-solves c.args.position.now c.args.to_move _ c.requires c.in_ok-sweep.ensures

pub returns-clause-plain : goal.returns-clause-plain
returns-clause-plain c = moves-plain _ c.in_ok-sweep.ensures.by_moves
