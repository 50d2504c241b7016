use Rattle.std.proofs.Common.{sym, ◌∙◌}
use Rattle.hx_board.proofs.SetLaws.{second_of_both}
use Rattle.hx_board.proofs.VertexSetLaws.{cells-small, union-codes}
use Rattle.hx_board.proofs.Spread.{Parts, parts-are_set}
use Rattle.hx_board.proofs.graphs.Graph.spread.Goals as goal

pub of-requires : goal.of-requires
of-requires c =
    let extent = c.self.invariant.valid.0 in
    rw (c.union-to_cells.ensures.set, c.union.ensures.set)
    (union-codes _ _
    (union-codes _ _ c.around-cells.ensures.codes
    (cells-small _ _ extent
    (λ n h. ((c.self.invariant.is_first n).0 (second_of_both c.has.result _ (sym (c.when-from_first.ensures n) ∙ h))).0)))
    (cells-small _ _ extent
    (λ n h. ((c.self.invariant.is_last n).0 (second_of_both c.has-2.result _ (sym (c.when-from_last.ensures n) ∙ h))).0)))

parts : (c : goal.After-union-2)
    → Parts c.self.inside.position.size c.self.inside.player c.args.set
    c.self.inside.first c.self.inside.last c.around-cells.result
    c.when-from_first.result c.when-from_last.result c.when-to_first.result c.when-to_last.result
    c.meets.result c.meets-2.result
parts c = record {
  extent = c.self.invariant.valid.0;
  is_first = c.self.invariant.is_first;
  is_last = c.self.invariant.is_last;
  is_cells = rw (← c.self.view_is, c.codes-codes.ensures.value) at c.around-cells.ensures.cells;
  is_from_first = λ n. rw (← c.has.ensures) (c.when-from_first.ensures n);
  is_from_last = λ n. rw (← c.has-2.ensures) (c.when-from_last.ensures n);
  is_at_first = rw c.codes-codes.ensures.value at c.meets.ensures.one;
  is_at_last = rw c.codes-codes.ensures.value at c.meets-2.ensures.one;
  is_to_first = λ n. rw (← c.single.ensures) (c.when-to_first.ensures n);
  is_to_last = λ n. rw (← c.single-2.ensures) (c.when-to_last.ensures n);
}

pub returns : goal.returns
returns c =
    rw (
      c.union-2.ensures.set,
      c.of.ensures,
      c.union-to_cells.ensures.set,
      c.union-to_sides.ensures.set,
      c.union.ensures.set,
      ← c.self.view_is,
    )
    (parts-are_set _ _ _ _ _ _ _ _ _ _ _ _ (parts c))
