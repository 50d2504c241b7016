use Rattle.hx_board.proofs.VertexSetLaws.{empty-codes, insert-codes}
use Rattle.hx_board.proofs.vertex_sets.VertexSet.single.Goals as goal

pub of-requires : goal.of-requires
of-requires c = rw c.single.ensures (insert-codes 0 _ empty-codes c.code.ensures.small)
