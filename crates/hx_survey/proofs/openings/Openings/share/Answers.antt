use Rattle.std.proofs.Common.{sym, ◌∙◌}
use Rattle.std.proofs.lemmas.Bool.{false≢true}
use Rattle.hx_board.specs.Cells.{IsLeastOn}
use Rattle.hx_cells.proofs.StillLeft.{cells-left}
use Rattle.hx_survey.proofs.PartShares.{share-begun, share-with, share-without, share-whole}
use Rattle.hx_survey.proofs.openings.Openings.share.Goals as goal

pub loop-cell-init : goal.loop-cell-init
loop-cell-init c =
    rw (c.empty-share.ensures, c.into_iter-cell-iterator.ensures.into_iter_gives, c.each_cell-cell-items.ensures.left)
    (share-begun c.args.self.now.size c.args.self.now.workers c.args.worker c.all.result
    (λ cell on. (c.all.ensures.cells cell).1 on))

pub is_in_share-requires : goal.is_in_share-requires
is_in_share-requires c =
    let left = cells-left c.args.self.now.size _ c.loop-cell.yielded
    (c.into_iter-cell-iterator.ensures.into_iter_gives ∙ c.each_cell-cell-items.ensures.left) c.loop-cell.yielded_by in
    rw left.size at c.in-Some.ensures.steps.least.on_board

pub loop-cell-preserved-then-is_in_share : goal.loop-cell-preserved-then-is_in_share
loop-cell-preserved-then-is_in_share c =
    let left = cells-left c.args.self.now.size _ c.loop-cell.yielded
    (c.into_iter-cell-iterator.ensures.into_iter_gives ∙ c.each_cell-cell-items.ensures.left) c.loop-cell.yielded_by in
    let least : IsLeastOn c.args.self.now.size c.loop-cell.cell-iterator.cells c.in-Some.cell =
    rw left.size at c.in-Some.ensures.steps.least in
    rw (c.in-Some.ensures.steps.cells, c.with-share.ensures.set)
    (share-with c.args.self.now.size c.args.self.now.workers c.args.worker c.loop-cell.cell-iterator.cells c.loop-cell.share c.in-Some.cell
    least c.loop-cell.invariant (c.is_in_share.ensures.0 c.if-is_in_share.true))

pub loop-cell-preserved : goal.loop-cell-preserved
loop-cell-preserved c =
    let left = cells-left c.args.self.now.size _ c.loop-cell.yielded
    (c.into_iter-cell-iterator.ensures.into_iter_gives ∙ c.each_cell-cell-items.ensures.left) c.loop-cell.yielded_by in
    let least : IsLeastOn c.args.self.now.size c.loop-cell.cell-iterator.cells c.in-Some.cell =
    rw left.size at c.in-Some.ensures.steps.least in
    rw c.in-Some.ensures.steps.cells
    (share-without c.args.self.now.size c.args.self.now.workers c.args.worker c.loop-cell.cell-iterator.cells c.loop-cell.share
    c.in-Some.cell least c.loop-cell.invariant
    (λ in_share. false≢true (sym c.if-is_in_share.false ∙ c.is_in_share.ensures.1 in_share)))

pub returns : goal.returns
returns c =
    let left = cells-left c.args.self.now.size _ c.loop-cell.yielded
    (c.into_iter-cell-iterator.ensures.into_iter_gives ∙ c.each_cell-cell-items.ensures.left) c.loop-cell.yielded_by in
    share-whole c.args.self.now.size c.args.self.now.workers c.args.worker c.loop-cell.cell-iterator.cells c.loop-cell.share
    c.loop-cell.invariant (rw left.size at c.in-None.ensures.steps.none)
