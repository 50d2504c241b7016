use Rattle.hx_board.proofs.NearLaws.{near-is}
use Rattle.hx_board.proofs.graphs.Graph.near.Goals as goal

pub of-requires : goal.of-requires
of-requires c = c.around.ensures.codes

pub returns : goal.returns
returns c =
    rw (c.union.ensures.set, c.single-single.ensures, c.of.ensures)
    (near-is _ _ _ (rw (c.codes.ensures.value, c.single-single.ensures) at c.around.ensures.cells))
