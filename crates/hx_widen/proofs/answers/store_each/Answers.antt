use Rattle.std.proofs.Common.{◌∙◌}
use Rattle.hx_book.proofs.SightLaws.{grows-on}
use Rattle.hx_cells.proofs.StillLeft.{cells-left}
use Rattle.hx_widen.proofs.answers.store_each.Goals as goal

pub with-next-requires : goal.with-next-requires
with-next-requires g c =
    let left = cells-left c.size-size.result c.args.cells c.loop-cell.yielded
    (c.into_iter-cell-iterator.ensures.into_iter_gives ∙ c.each_cell-cell-items.ensures.left) c.loop-cell.yielded_by in
    c.requires c.in-Some.cell (left.inside c.in-Some.cell c.in-Some.ensures.steps.least.member)

pub loop-cell-preserved : goal.loop-cell-preserved
loop-cell-preserved g c = grows-on _ _ _ c.loop-cell.invariant c.store_wider.ensures.grew

pub returns-in_err-store_wider-clause-grew : goal.returns-in_err-store_wider-clause-grew
returns-in_err-store_wider-clause-grew g c =
    grows-on _ _ _ c.loop-cell.invariant c.store_wider.ensures.grew
