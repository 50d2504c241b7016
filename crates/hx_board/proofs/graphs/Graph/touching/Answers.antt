use Rattle.hx_board.proofs.AllJoined.{touching-is}
use Rattle.hx_board.proofs.graphs.Graph.touching.Goals as goal

pub returns : goal.returns
returns c =
    rw (c.union.ensures.set, c.single-single.ensures)
    (touching-is _ _ c.own-own.ensures.valid.0 _ c.requires _ (rw c.single-single.ensures at c.spread.ensures))
