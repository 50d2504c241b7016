use Rattle.std.proofs.Common.{◌<◌, length, arith}
use Rattle.hx_demo.proofs.DrawnStones.{drawn_none, drawn_more}
use Rattle.hx_demo.proofs.draws.Draw.stones.Goals as goal

pub loop-stone-init : goal.loop-stone-init
loop-stone-init c = drawn_none _ _ _ c.empty-cells.ensures

pub cell-requires : goal.cell-requires
cell-requires c = let all = c.loop-stone.invariant.room in omega arith

pub loop-stone-preserved : goal.loop-stone-preserved
loop-stone-preserved c =
    let all = c.loop-stone.invariant.room in
    let some : 0 < length c.loop-stone.left.items = omega arith in
    rw c.with-cells.ensures.set
    (drawn_more _ _ _ _ _ _ _ _ _ c.loop-stone.invariant some c.cell.ensures.cell c.cell.ensures.rest c.cell.ensures.further)
