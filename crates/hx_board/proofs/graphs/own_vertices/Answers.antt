use Rattle.hx_board.proofs.FloodLaws.{own-is}
use Rattle.hx_board.proofs.graphs.own_vertices.Goals as goal

pub returns : goal.returns
returns c =
    rw (c.with-2.ensures.set, c.with.ensures.set, c.of.ensures)
    (own-is c.args.position.now c.args.player _
    (rw c.size.ensures.value at c.rows-rows.ensures.valid, c.stones.ensures.valid) c.stones.ensures.value)
