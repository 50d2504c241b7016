use Rattle.std.proofs.Common.{◌∙◌}
use Rattle.hx_board.proofs.SetLaws.{has-intersection_right}
use Rattle.hx_book.proofs.SightLaws.{grows-on}
use Rattle.hx_cells.proofs.StillLeft.{cells-left}
use Rattle.hx_widen.proofs.lines.lines_at.Goals as goal

pub line_at-requires-clause-empty : goal.line_at-requires-clause-empty
line_at-requires-clause-empty g c =
    let left = cells-left c.size-size.result _ c.loop-cell.yielded
    (c.into_iter-cell-iterator.ensures.into_iter_gives ∙ c.each_cell-cell-items.ensures.left) c.loop-cell.yielded_by in
    let member = left.inside c.in-Some.cell c.in-Some.ensures.steps.least.member in
    (c.empties.ensures c.in-Some.cell).0 (has-intersection_right _ _ _ (rw c.meet-empties.ensures.set at member))

pub returns-in_default-line_at-clause-grew : goal.returns-in_default-line_at-clause-grew
returns-in_default-line_at-clause-grew g c = grows-on _ _ _ c.loop-cell.invariant.grew c.line_at.ensures.grew

pub returns-then-is_err-clause-grew : goal.returns-then-is_err-clause-grew
returns-then-is_err-clause-grew g c = grows-on _ _ _ c.loop-cell.invariant.grew c.line_at.ensures.grew

pub loop-cell-preserved : goal.loop-cell-preserved
loop-cell-preserved g c = record {
  grew = grows-on _ _ _ c.loop-cell.invariant.grew c.line_at.ensures.grew;
  known = c.in-Some-line_at.ensures.known;
}
