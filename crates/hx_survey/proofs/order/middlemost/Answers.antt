use Rattle.std.proofs.Common.{◌∙◌}
use Rattle.hx_board.proofs.SetLaws.{has-remove_before}
use Rattle.hx_cells.proofs.StillLeft.{cells-left}
use Rattle.hx_survey.proofs.order.middlemost.Goals as goal

pub loop-cell-preserved-then-from_middle : goal.loop-cell-preserved-then-from_middle
loop-cell-preserved-then-from_middle c =
    let left = cells-left c.args.size _ c.loop-cell.yielded
    (c.into_iter-cell-iterator.ensures.into_iter_gives ∙ c.each_cell-cell-items.ensures.left) c.loop-cell.yielded_by in
    let first = c.in-Some.ensures.steps in
    record {
      middlemost =
          record { on_board = rw left.size at first.least.on_board; member = c.loop-cell.invariant.left _ first.least.member };
      left = λ n h. c.loop-cell.invariant.left n (has-remove_before _ c.in-Some.cell n (rw first.cells at h));
    }

pub loop-cell-preserved : goal.loop-cell-preserved
loop-cell-preserved c = record {
  middlemost = c.loop-cell.invariant.middlemost;
  left = λ n h. c.loop-cell.invariant.left n (has-remove_before _ c.in-Some.cell n (rw c.in-Some.ensures.steps.cells at h));
}
