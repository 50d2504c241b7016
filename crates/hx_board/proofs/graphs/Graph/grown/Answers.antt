use Rattle.hx_board.proofs.FloodLaws.{cells-grow}
use Rattle.hx_board.proofs.graphs.Graph.grown.Goals as goal

pub returns : goal.returns
returns c =
    rw (c.union.ensures.set, c.meet.ensures.set, c.of-cells.ensures, ← c.self.view_is)
    (cells-grow _ _ _ _ _ c.self.invariant.is_own (rw (← c.self.view_is, c.codes.ensures.value) at c.around.ensures.cells))
