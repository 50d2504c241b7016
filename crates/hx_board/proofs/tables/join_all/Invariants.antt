use Rattle.hx_board.proofs.tables.join_all.Given as goal
use Rattle.hx_board.proofs.GroupLaws.{AreJoinedBut}

abbrev pub invariant-loop-vertex : goal.invariant-loop-vertex
invariant-loop-vertex l = AreJoinedBut l.fn.sets l.sets l.group l.waiting

abbrev pub decreases-loop-vertex : goal.decreases-loop-vertex
decreases-loop-vertex l = l.waiting
