use Rattle.hx_board.specs.Floods.{AreNear}
use Rattle.hx_board.proofs.tables.join_rest.Given as goal

abbrev pub invariant-loop-index : goal.invariant-loop-index
invariant-loop-index l = AreNear l.graph.board.size l.index l.sets
