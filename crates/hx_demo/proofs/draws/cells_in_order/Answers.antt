use Rattle.std.proofs.Common.{lit<}
use Rattle.hx_demo.proofs.BoardCells.{length-cells_so_far, cells_so_far-more}
use Rattle.hx_demo.proofs.draws.cells_in_order.Goals as goal

pub push-requires : goal.push-requires
push-requires c = (lit< tt, length-cells_so_far _ _ c.loop-place-test.true c.loop-place.invariant)

pub loop-place-preserved : goal.loop-place-preserved
loop-place-preserved c =
    let found = rw c.unwrap.ensures at c.cell.ensures in
    rw c.push.ensures.items (cells_so_far-more _ _ _ c.loop-place-test.true c.loop-place.invariant found.1)
