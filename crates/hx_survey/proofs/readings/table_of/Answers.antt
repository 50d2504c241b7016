use Rattle.std.proofs.Common.{◌∙◌, refl}
use Rattle.hx_board.specs.Cells.{IsLeastOn}
use Rattle.hx_cells.proofs.StillLeft.{cells-left}
use Rattle.hx_survey.proofs.PartTables.{table-begun, table-more}
use Rattle.hx_survey.proofs.readings.table_of.Goals as goal

pub loop-cell-init : goal.loop-cell-init
loop-cell-init c =
    rw (c.empty-black.ensures, c.into_iter-cell-iterator.ensures.into_iter_gives, c.each_cell-cell-items.ensures.left)
    (table-begun c.args.size c.all.result (λ cell on. (c.all.ensures.cells cell).1 on))

pub loop-cell-preserved : goal.loop-cell-preserved
loop-cell-preserved c =
    let left = cells-left c.args.size _ c.loop-cell.yielded
    (c.into_iter-cell-iterator.ensures.into_iter_gives ∙ c.each_cell-cell-items.ensures.left) c.loop-cell.yielded_by in
    let least : IsLeastOn c.args.size c.loop-cell.cell-iterator.cells c.in-Some.cell = rw left.size at c.in-Some.ensures.steps.least in
    rw (c.in-Some.ensures.steps.cells, c.marked-black.ensures)
    (table-more c.args.size c.loop-cell.cell-iterator.cells c.loop-cell.black c.in-Some.cell least c.loop-cell.invariant
    c.in-Some-winner_after.winner c.in-Some-winner_after.ensures)

pub winner_after-requires : goal.winner_after-requires
winner_after-requires c =
    let left = cells-left c.args.size _ c.loop-cell.yielded
    (c.into_iter-cell-iterator.ensures.into_iter_gives ∙ c.each_cell-cell-items.ensures.left) c.loop-cell.yielded_by in
    rw left.size at c.in-Some.ensures.steps.least.on_board

pub returns-in_default : goal.returns-in_default
returns-in_default c =
    let left = cells-left c.args.size _ c.loop-cell.yielded
    (c.into_iter-cell-iterator.ensures.into_iter_gives ∙ c.each_cell-cell-items.ensures.left) c.loop-cell.yielded_by in
    record {
      cell = c.in-Some.cell;
      on_board = rw left.size at c.in-Some.ensures.steps.least.on_board;
      is_open = c.in_default.ensures;
    }

pub returns : goal.returns
returns c =
    let left = cells-left c.args.size _ c.loop-cell.yielded
    (c.into_iter-cell-iterator.ensures.into_iter_gives ∙ c.each_cell-cell-items.ensures.left) c.loop-cell.yielded_by in
    let none = rw left.size at c.in-None.ensures.steps.none in
    rw c.new.ensures (record {
      same_size = refl;
      right = record {
        inside = c.loop-cell.invariant.inside;
        winners = λ cell on. c.loop-cell.invariant.winners cell on (none cell on);
      };
    })
