-- The cells of the lines are taken one by one. Where one is below the index that may come next, the lines are not in
-- order; at the end they are those of the wanted set exactly where the set that was kept is this set.
use Rattle.std.proofs.Common.{◌≡◌, ℕ, ◌<◌, List, length, get_or, sym, ap, ◌∙◌, arith, eqb-true, eq-eqb}
use Rattle.std.proofs.lemmas.Bool.{false≢true}
use Rattle.std.proofs.lemmas.List.{get_or-map, length-map}
use Rattle.hx_tree.specs.declared.nodes.Line.{Line}
use Rattle.hx_tree.specs.Answers.{cell_of, cells_of}
use Rattle.hx_tree.proofs.CellOrder.{none_taken, one_more_taken, out_of_order, all_taken}
use Rattle.hx_tree.proofs.answers.are_lines_of.Goals as goal

cell_at : (lines : List Line) (k : ℕ) (line : Line) (cell : ℕ) → k < length lines → line ≡ get_or lines k line → cell ≡ cell_of line
    → (d : ℕ) → get_or (cells_of lines) k d ≡ cell
cell_at lines k line cell less is same d = get_or-map cell_of lines k line d less ∙ ap cell_of (sym is) ∙ sym same

pub loop-line-init : goal.loop-line-init
loop-line-init c = rw c.empty-answered.ensures (none_taken (cells_of c.args.lines.now))

pub returns-then-index-first_free : goal.returns-then-index-first_free
returns-then-index-first_free c =
    let at = cell_at c.args.lines.now c.loop-line.line-index c.line-item.result c.cell-cell.result c.loop-line-test.true c.line-item.is
    c.cell-cell.ensures in
    let wrong = out_of_order (cells_of c.args.lines.now) _ _ _ _ c.loop-line.invariant at _
    (omega (arith, length-map c.args.lines.now cell_of)) (omega (arith, c.index.ensures.value)) in
    (λ never. absurd (false≢true never), λ in_order. absurd (wrong in_order))

pub loop-line-preserved : goal.loop-line-preserved
loop-line-preserved c =
    let at = cell_at c.args.lines.now c.loop-line.line-index c.line-item.result c.cell-cell.result c.loop-line-test.true c.line-item.is
    c.cell-cell.ensures in
    rw (c.with-answered.ensures.set, c.index-first_free.ensures.value)
    (one_more_taken (cells_of c.args.lines.now) _ _ _ _ c.loop-line.invariant at (omega (arith, c.index.ensures.value)))

pub returns : goal.returns
returns c =
    let same = all_taken (cells_of c.args.lines.now) _ _ _ c.args.cells c.loop-line.invariant
    (omega (arith, length-map c.args.lines.now cell_of)) in
    (λ yes. same.0 (eqb-true _ _ (sym c.eq.ensures ∙ yes)), λ in_order. c.eq.ensures ∙ eq-eqb _ _ (same.1 in_order))
