use Rattle.hx_board.proofs.AllJoined.{AreGrouped}
use Rattle.hx_board.proofs.joined_vertices.joined_by_groups.Given as goal

abbrev pub invariant-loop-start : goal.invariant-loop-start
invariant-loop-start l = AreGrouped l.graph.board l.graph.player l.set l.initial.waiting l.waiting l.sets

abbrev pub decreases-loop-start : goal.decreases-loop-start
decreases-loop-start l = l.waiting
