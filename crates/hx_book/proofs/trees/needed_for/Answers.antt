use Rattle.std.proofs.Common.{◌≡◌, ◌<◌, ◌+◌, ◌-◌, ℕ, length, sym, ◌∙◌, subst, Some, false, arith, refl}
use Rattle.std.proofs.lemmas.Option.{slice_get_read}
use Rattle.std.specs.Prelude.{slice_get}
use Rattle.std.proofs.lemmas.Bool.{false≢true}
use Rattle.hx_board.proofs.ListLaws.{read-or}
use Rattle.hx_book.specs.Renaming.{IsMarked, AreMarkedFrom}
use Rattle.hx_book.proofs.NeedLaws.{marked-begun, marked-skip, marked-more}
use Rattle.hx_book.proofs.trees.needed_for.Goals as goal

pub loop-bound-init : goal.loop-bound-init
loop-bound-init c = record {
  marked = marked-begun c.args.nodes.now c.args.root c.in-Ok.marks.items c.mark.new.marks.items c.in-Ok.ensures c.mark.ensures;
  within = omega arith;
}

pub loop-bound-preserved-then-index : goal.loop-bound-preserved-then-index
loop-bound-preserved-then-index c =
    let up : c.loop-bound.bound ≡ c.loop-bound.bound - 1 + 1 = omega (arith, c.loop-bound-test.true) in
    let was : AreMarkedFrom c.args.nodes.now c.args.root (c.loop-bound.bound - 1 + 1) c.loop-bound.marks.items =
    subst (λ (b : ℕ). AreMarkedFrom c.args.nodes.now c.args.root b c.loop-bound.marks.items) up c.loop-bound.invariant.marked in
    let inside : c.loop-bound.bound - 1 < length c.args.nodes.now =
    omega (arith, c.loop-bound-test.true, c.loop-bound.invariant.within, c.requires.inside) in
    let inside_marks : c.loop-bound.bound - 1 < length c.loop-bound.marks.items =
    omega (arith, inside, c.loop-bound.invariant.marked.long) in
    let here : IsMarked c.loop-bound.marks.items (c.loop-bound.bound - 1) =
    read-or c.loop-bound.marks.items (c.loop-bound.bound - 1) c.index.result.now false inside_marks c.index.ensures ∙ c.if-index.true in
    let there : slice_get c.args.nodes.now (c.loop-bound.bound - 1) ≡ Some c.index-nodes-bound.result =
    slice_get_read c.args.nodes.now _ (c.loop-bound.bound - 1) c.index-nodes-bound.result refl inside c.index-nodes-bound.is in
    record {
      marked = marked-more c.args.nodes.now c.requires.right c.args.root
          (c.loop-bound.bound - 1) c.loop-bound.marks.items was c.index-nodes-bound.result there here
          c.mark_children.new.marks.items c.mark_children.ensures;
      within = omega (arith, c.loop-bound.invariant.within);
    }

pub loop-bound-preserved : goal.loop-bound-preserved
loop-bound-preserved c =
    let up : c.loop-bound.bound ≡ c.loop-bound.bound - 1 + 1 = omega (arith, c.loop-bound-test.true) in
    let was : AreMarkedFrom c.args.nodes.now c.args.root (c.loop-bound.bound - 1 + 1) c.loop-bound.marks.items =
    subst (λ (b : ℕ). AreMarkedFrom c.args.nodes.now c.args.root b c.loop-bound.marks.items) up c.loop-bound.invariant.marked in
    let inside_marks : c.loop-bound.bound - 1 < length c.loop-bound.marks.items =
    omega (arith, c.loop-bound-test.true, c.loop-bound.invariant.within, c.requires.inside, c.loop-bound.invariant.marked.long) in
    let none : IsMarked c.loop-bound.marks.items (c.loop-bound.bound - 1) → ⊥ = λ h.
    false≢true (sym (read-or c.loop-bound.marks.items (c.loop-bound.bound - 1) c.index.result.now false inside_marks c.index.ensures
    ∙ c.if-index.false) ∙ h) in
    record {
      marked = marked-skip c.args.nodes.now c.requires.right c.args.root (c.loop-bound.bound - 1) c.loop-bound.marks.items was none;
      within = omega (arith, c.loop-bound.invariant.within);
    }

pub returns : goal.returns
returns c =
    let end : c.loop-bound.bound ≡ 0 = omega (arith, c.loop-bound-test.false) in
    subst (λ (b : ℕ). AreMarkedFrom c.args.nodes.now c.args.root b c.loop-bound.marks.items) end c.loop-bound.invariant.marked
