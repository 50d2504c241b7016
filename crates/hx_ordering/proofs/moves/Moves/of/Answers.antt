use Rattle.std.proofs.Common.{◌≡◌, ℕ, true, List, is_ok, refl, sym, ◌∙◌, subst}
use Rattle.std.proofs.lemmas.Bool.{false≢true}
use Rattle.std.proofs.lemmas.List.Elements.{All-push}
use Rattle.hx_fill.specs.Musts.{IsSharedByAll}
use Rattle.hx_ordering.specs.declared.children.Child.{Child}
use Rattle.hx_ordering.specs.Choices.{IsChildOf}
use Rattle.hx_ordering.proofs.TryLaws.{AreTried, gathered-passed, gathered-pushed, gathered-all, tried-without_lines, tried-or_better}
use Rattle.hx_ordering.proofs.moves.Moves.of.Goals as goal

pub loop-cell-preserved-then-not-has : goal.loop-cell-preserved-then-not-has
loop-cell-preserved-then-not-has c = record {
  each = c.loop-cell.invariant.each;
  among = c.loop-cell.invariant.among;
  gathered = gathered-passed _ _ _ _ _ c.cell-item.result c.loop-cell-test.true c.cell-item.is c.loop-cell.invariant.gathered
      (λ member empty. absurd (false≢true (sym c.if-not-has.true ∙ (c.has.ensures ∙ member))));
}

pub loop-cell-preserved-in_default : goal.loop-cell-preserved-in_default
loop-cell-preserved-in_default c = record {
  each = c.loop-cell.invariant.each;
  among = c.loop-cell.invariant.among;
  gathered = gathered-passed _ _ _ _ _ c.cell-item.result c.loop-cell-test.true c.cell-item.is c.loop-cell.invariant.gathered
      (λ member empty. c.in_default.ensures empty);
}

pub loop-cell-preserved : goal.loop-cell-preserved
loop-cell-preserved c =
    let pushed : is_ok c.push.result ≡ true = sym c.map_err-in-loop-cell.ensures.variant ∙ rw c.in_ok-map_err.was refl in
    let shared : IsSharedByAll c.args.others.now c.cell-item.result =
    (c.in_ok-must.ensures.must.shared c.cell-item.result).0 (c.tried_cells-tried.ensures.inside c.cell-item.result
    (sym c.has.ensures ∙ c.if-not-has.false)) in
    rw (c.push.ensures.items, pushed) (record {
      each = All-push (IsChildOf c.args.situation.now) c.loop-cell.children.items c.in-Some.child c.loop-cell.invariant.each
          c.in-Some.ensures.1;
      among = All-push (λ (child : Child). IsSharedByAll c.args.others.now child.cell) c.loop-cell.children.items c.in-Some.child
          c.loop-cell.invariant.among (subst (λ (n : ℕ). IsSharedByAll c.args.others.now n) (sym c.in-Some.ensures.0) shared);
      gathered = gathered-pushed _ _ _ _ _ c.cell-item.result c.loop-cell-test.true c.cell-item.is c.loop-cell.invariant.gathered
          c.in-Some.child c.in-Some.ensures.0;
    })

pub returns-clause-all : goal.returns-clause-all
returns-clause-all c = λ all. tried-without_lines c.args.own.now c.args.others.now c.args.situation.now c.in_ok-order.order.items _ _ _ _
    c.loop-cell.children.items c.in_ok-must.ensures.must c.tried_cells-tried.ensures.kept c.in_ok-order.ensures
    (subst (λ (order : List ℕ). AreTried c.args.situation.now.filled c.tried_cells-tried.result order c.loop-cell.children.items)
    c.as_slice-cell-items.ensures.value
    (gathered-all _ _ _ _ _ c.loop-cell-test.false c.loop-cell.invariant.gathered))
    (c.in_ok-must.ensures.no_lines all)

pub returns-clause-best : goal.returns-clause-best
returns-clause-best c = tried-or_better c.args.own.now c.args.others.now c.args.situation.now c.in_ok-order.order.items _ _ _ _
    c.loop-cell.children.items c.in_ok-must.ensures.must c.tried_cells-tried.ensures.kept c.in_ok-order.ensures
    (subst (λ (order : List ℕ). AreTried c.args.situation.now.filled c.tried_cells-tried.result order c.loop-cell.children.items)
    c.as_slice-cell-items.ensures.value
    (gathered-all _ _ _ _ _ c.loop-cell-test.false c.loop-cell.invariant.gathered))
