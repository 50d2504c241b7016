use Rattle.hx_board.proofs.AllJoined.{AreReachedBut}
use Rattle.hx_board.proofs.joined_vertices.are_each_reached.Given as goal

abbrev pub invariant-loop-vertex : goal.invariant-loop-vertex
invariant-loop-vertex l = AreReachedBut l.graph.board.size l.graph.player l.set l.waiting l.sets

abbrev pub decreases-loop-vertex : goal.decreases-loop-vertex
decreases-loop-vertex l = l.waiting
