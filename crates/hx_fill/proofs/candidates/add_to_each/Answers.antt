use Rattle.std.proofs.Common.{◌<◌, ◌∙◌, length, get_or}
use Rattle.hx_board.specs.Cells.{OnBoard}
use Rattle.hx_board.proofs.GroupLaws.{read-is}
use Rattle.hx_cells.proofs.StillLeft.{cells-left}
use Rattle.hx_fill.proofs.CandidateLaws.{added_none, added_more}
use Rattle.hx_fill.proofs.candidates.add_to_each.Goals as goal

pub loop-place-init : goal.loop-place-init
loop-place-init c = rw (c.into_iter-place-iterator.ensures.into_iter_gives, c.each_cell-place-items.ensures.left)
    (added_none (OnBoard c.args.size) c.args.places c.args.cell c.args.sets.now c.told-sets)

pub loop-place-preserved : goal.loop-place-preserved
loop-place-preserved c =
    let within : c.in-Some.place < length c.loop-place.sets = rw c.loop-place.invariant.count c.index-index.ensures.small in
    let row = rw c.index-index.ensures.value at c.index-sets-index.is in
    rw (c.with.ensures.set, c.in-Some.ensures.steps.cells, c.index-index.ensures.value)
    (added_more (OnBoard c.args.size) c.args.places c.args.cell c.args.sets.now c.loop-place.sets c.loop-place.place-iterator.cells c.in-Some.place
    (get_or c.loop-place.sets c.in-Some.place c.index-sets-index.result) c.index-index.ensures.small
    (read-is c.loop-place.sets c.in-Some.place c.index-sets-index.result within row) c.loop-place.invariant)

pub returns : goal.returns
returns c =
    let left = cells-left c.args.size c.args.places c.loop-place.yielded
    (c.into_iter-place-iterator.ensures.into_iter_gives ∙ c.each_cell-place-items.ensures.left) c.loop-place.yielded_by in
    let none = rw left.size at c.in-None.ensures.steps.none in
    record {
      count = c.loop-place.invariant.count;
      kept = c.loop-place.invariant.kept;
      added = λ n on here. c.loop-place.invariant.added n on here (none n on);
    }
