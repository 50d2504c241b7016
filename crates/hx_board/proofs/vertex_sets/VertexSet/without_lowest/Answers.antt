use Rattle.hx_board.proofs.vertex_sets.VertexSet.without_lowest.Goals as goal

pub of-requires : goal.of-requires
of-requires c = λ n h. c.self.invariant n (c.without_lowest.ensures.inside n h)
