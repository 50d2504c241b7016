use Rattle.std.proofs.Common.{◌∙◌}
use Rattle.hx_cells.proofs.StillLeft.{cells-left}
use Rattle.hx_ordering.proofs.orders.joined_with_any.Goals as goal

pub joined_with-requires : goal.joined_with-requires
joined_with-requires c =
    let left = cells-left c.size-size.result c.args.cells c.loop-cell.yielded
    (c.into_iter-cell-iterator.ensures.into_iter_gives ∙ c.each_cell-cell-items.ensures.left) c.loop-cell.yielded_by in
    rw c.groups.ensures
    (rw (left.size, c.size-size.ensures.value, c.position.ensures) at c.in-Some.ensures.steps.least.on_board)
