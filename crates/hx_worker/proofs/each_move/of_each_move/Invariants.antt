use Rattle.hx_known.specs.Views.{Goes}
use Rattle.hx_worker.proofs.each_move.of_each_move.Given as goal

abbrev pub invariant-loop-left : goal.invariant-loop-left
invariant-loop-left g l = Goes (g.K.KnowsMoves.view l.fn.known) (g.K.KnowsMoves.view l.known)

abbrev pub decreases-loop-left : goal.decreases-loop-left
decreases-loop-left g l = l.left
