use Rattle.hx_board.proofs.GroupLaws.{AreJoinedOver}
use Rattle.hx_board.proofs.tables.join_groups.Given as goal

abbrev pub invariant-loop-start : goal.invariant-loop-start
invariant-loop-start l = AreJoinedOver l.graph.board l.graph.player l.sets l.initial.waiting l.waiting

abbrev pub decreases-loop-start : goal.decreases-loop-start
decreases-loop-start l = l.waiting
