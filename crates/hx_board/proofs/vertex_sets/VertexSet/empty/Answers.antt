use Rattle.hx_board.proofs.VertexSetLaws.{empty-codes}
use Rattle.hx_board.proofs.vertex_sets.VertexSet.empty.Goals as goal

pub of-requires : goal.of-requires
of-requires c = rw c.empty.ensures empty-codes
