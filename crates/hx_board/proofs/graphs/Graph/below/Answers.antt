use Rattle.hx_board.proofs.NearLaws.{below-is}
use Rattle.hx_board.proofs.graphs.Graph.below.Goals as goal

pub returns : goal.returns
returns c =
    rw (c.of.ensures, c.meet.ensures.set, ← c.self.view_is, ← c.codes.ensures.value)
    (below-is _ _ _ _ c.self.invariant.valid.0 c.self.invariant.is_all c.later.ensures)
