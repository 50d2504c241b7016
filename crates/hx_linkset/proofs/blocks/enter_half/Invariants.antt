use Rattle.hx_linkset.proofs.BlockLaws.{EnteredBut}
use Rattle.hx_linkset.proofs.blocks.enter_half.Given as goal

abbrev pub invariant-loop-left : goal.invariant-loop-left
invariant-loop-left l = EnteredBut l.fn.rows l.rows l.number l.first l.cells l.left

abbrev pub decreases-loop-left : goal.decreases-loop-left
decreases-loop-left l = l.left
