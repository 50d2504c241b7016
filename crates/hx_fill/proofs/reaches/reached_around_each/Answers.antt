use Rattle.std.proofs.Common.{◌∙◌}
use Rattle.hx_cells.proofs.StillLeft.{cells-left}
use Rattle.hx_fill.proofs.ReachLaws.{holds-open, holds-more}
use Rattle.hx_fill.proofs.reaches.reached_around_each.Goals as goal

pub open_around-around-requires : goal.open_around-around-requires
open_around-around-requires c =
    let left = cells-left c.size-size.result c.args.cells c.loop-cell.yielded
    (c.into_iter-cell-iterator.ensures.into_iter_gives ∙ c.each_cell-cell-items.ensures.left) c.loop-cell.yielded_by in
    rw c.position-in-loop-cell.ensures (c.requires c.in-Some.cell (left.inside c.in-Some.cell c.in-Some.ensures.steps.least.member)).on_board

pub reached_around-near-requires : goal.reached_around-near-requires
reached_around-near-requires c = let around = rw (c.position-in-loop-cell.ensures, c.colour.ensures) at c.open_around-around.ensures in
    around.vertices

pub loop-cell-preserved : goal.loop-cell-preserved
loop-cell-preserved c = rw (c.in-Some.ensures.steps.cells, c.union-found.ensures.set)
    (holds-more c.args.view.now.board c.args.view.now.player c.args.cells c.loop-cell.cell-iterator.cells c.in-Some.cell c.loop-cell.found
    c.reached_around-near.result
    c.loop-cell.invariant
    (holds-open c.args.view.now.board c.args.view.now.player c.in-Some.cell c.open_around-around.result c.reached_around-near.result
    (rw (c.position-in-loop-cell.ensures, c.colour.ensures) at c.open_around-around.ensures) c.reached_around-near.ensures))

pub returns : goal.returns
returns c =
    let left = cells-left c.size-size.result c.args.cells c.loop-cell.yielded
    (c.into_iter-cell-iterator.ensures.into_iter_gives ∙ c.each_cell-cell-items.ensures.left) c.loop-cell.yielded_by in
    let none = rw (left.size, c.size-size.ensures.value, c.position.ensures) at c.in-None.ensures.steps.none in
    λ cell among. c.loop-cell.invariant cell among (none cell (c.requires cell among).on_board)
