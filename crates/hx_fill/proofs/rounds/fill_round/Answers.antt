use Rattle.std.proofs.Common.{sym, ◌∙◌}
use Rattle.std.proofs.lemmas.Bool.{false≢true}
use Rattle.hx_cells.proofs.StillLeft.{cells-left}
use Rattle.hx_fill.proofs.RoundLaws.{grown-looks, round_looks, round_passes, round_ends}
use Rattle.hx_fill.proofs.rounds.fill_round.Goals as goal

pub loop-cell-preserved-then-is_empty : goal.loop-cell-preserved-then-is_empty
loop-cell-preserved-then-is_empty c = record {
  grown = grown-looks _ _ _ _ c.in-Some.cell _ _ c.loop-cell.invariant.grown c.in_ok-empties.ensures.looks;
  empties = c.in_ok-empties.ensures.empties;
  round = rw c.in-Some.ensures.steps.cells
      (round_looks _ _ _ c.loop-cell.cell-iterator.cells c.in-Some.cell _ _ _ _ c.loop-cell.invariant.round c.in_ok-empties.ensures.looks);
}

pub loop-cell-preserved : goal.loop-cell-preserved
loop-cell-preserved c = record {
  grown = c.loop-cell.invariant.grown;
  empties = c.loop-cell.invariant.empties;
  round = rw c.in-Some.ensures.steps.cells (round_passes _ _ _ c.loop-cell.cell-iterator.cells c.in-Some.cell _ _
      (λ empty. false≢true (sym c.if-is_empty.false ∙ (c.has-is_empty.ensures ∙ (c.loop-cell.invariant.empties c.in-Some.cell).1 empty)))
      c.loop-cell.invariant.round);
}

pub returns : goal.returns
returns c =
    let left = cells-left c.size-size.result _ c.loop-cell.yielded
    (c.into_iter-cell-iterator.ensures.into_iter_gives ∙ c.each_cell-cell-items.ensures.left) c.loop-cell.yielded_by in
    let none = rw (left.size, c.size-size.ensures.value) at c.in-None.ensures.steps.none in
    let round = rw c.of-view.ensures at c.loop-cell.invariant.round in
    round_ends _ _ _ c.loop-cell.cell-iterator.cells _ _ none round
