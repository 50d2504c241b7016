use Rattle.std.proofs.Common.{◌≡◌, ◌≤◌, ◌+◌, ℕ, Some, false, length, refl, sym, ap, ◌∙◌, arith}
use Rattle.std.specs.Prelude.{slice_get, slice_index_or, is_err}
use Rattle.std.proofs.lemmas.List.{nil_from_length}
use Rattle.std.proofs.lemmas.Option.{slice_get_within}
use Rattle.std.specs.Vec.Iter.{into_iter_items}
use Rattle.hx_book.proofs.KeptLaws.{kept-none, kept-next, kept-all, child-kept, rest-node, rest-more, rest-end, on-ok}
use Rattle.hx_book.proofs.trees.kept_of.Goals as goal

pub loop-entry-init : goal.loop-entry-init
loop-entry-init c = record {
  rest = λ k. let same : 0 + k ≡ k = omega arith in
      rw c.into_iter-rest.ensures.rest (ap (λ (p : ℕ). slice_get c.args.nodes.items p) same);
  kept = rw c.new.ensures.items
      (kept-none c.args.nodes.items c.args.root c.args.marks.now c.in-Ok.names.items
      (omega (arith, c.in-Ok.ensures.len, c.in-Ok.names.ok, c.len.ensures, c.args.nodes.ok)));
}

pub bounds-marks-place : goal.bounds-marks-place
bounds-marks-place c =
    let there : slice_get c.args.nodes.items c.loop-entry.place ≡ Some c.in-Some.entry =
    rest-node c.args.nodes.items c.loop-entry.place (into_iter_items c.loop-entry.rest) c.in-Some.entry
    (into_iter_items c.next.new.self) c.loop-entry.invariant.rest c.in-Some.ensures.items in
    omega (arith, slice_get_within c.args.nodes.items c.loop-entry.place c.in-Some.entry there, c.requires.marked.long)

pub keep_needed-requires-clause-inside : goal.keep_needed-requires-clause-inside
keep_needed-requires-clause-inside c =
    let there : slice_get c.args.nodes.items c.loop-entry.place ≡ Some c.in-Some.entry =
    rest-node c.args.nodes.items c.loop-entry.place (into_iter_items c.loop-entry.rest) c.in-Some.entry
    (into_iter_items c.next.new.self) c.loop-entry.invariant.rest c.in-Some.ensures.items in
    omega (arith, slice_get_within c.args.nodes.items c.loop-entry.place c.in-Some.entry there, c.loop-entry.invariant.kept.named)

pub keep_needed-requires-clause-children : goal.keep_needed-requires-clause-children
keep_needed-requires-clause-children c =
    let there : slice_get c.args.nodes.items c.loop-entry.place ≡ Some c.in-Some.entry =
    rest-node c.args.nodes.items c.loop-entry.place (into_iter_items c.loop-entry.rest) c.in-Some.entry
    (into_iter_items c.next.new.self) c.loop-entry.invariant.rest c.in-Some.ensures.items in
    child-kept c.args.nodes.items c.requires.right c.args.root c.args.marks.now c.requires.marked c.loop-entry.place
    c.loop-entry.kept.nodes.items c.loop-entry.kept.names.items c.loop-entry.invariant.kept c.in-Some.entry there

pub loop-entry-preserved : goal.loop-entry-preserved
loop-entry-preserved c =
    let there : slice_get c.args.nodes.items c.loop-entry.place ≡ Some c.in-Some.entry =
    rest-node c.args.nodes.items c.loop-entry.place (into_iter_items c.loop-entry.rest) c.in-Some.entry
    (into_iter_items c.next.new.self) c.loop-entry.invariant.rest c.in-Some.ensures.items in
    let no_error : is_err c.keep_needed.result ≡ false = sym c.is_err.ensures.value ∙ c.if-is_err.false in
    record {
      rest = rest-more c.args.nodes.items c.loop-entry.place (into_iter_items c.loop-entry.rest) c.in-Some.entry
          (into_iter_items c.next.new.self) c.loop-entry.invariant.rest c.in-Some.ensures.items;
      kept = kept-next c.args.nodes.items c.requires.right c.args.root c.args.marks.now c.requires.marked c.loop-entry.place
          c.loop-entry.kept.nodes.items c.loop-entry.kept.names.items c.loop-entry.invariant.kept
          c.in-Some.entry there (slice_index_or c.args.marks.now c.loop-entry.place false) refl c.keep_needed.new.kept.nodes.items
          c.keep_needed.new.kept.names.items
          (λ is. on-ok c.keep_needed.result _ no_error (c.keep_needed.ensures.needed is))
          (λ is. on-ok c.keep_needed.result _ no_error (c.keep_needed.ensures.dropped is));
    }

pub returns : goal.returns
returns c =
    let past : length c.args.nodes.items ≤ c.loop-entry.place =
    rest-end c.args.nodes.items c.loop-entry.place (into_iter_items c.loop-entry.rest) c.loop-entry.invariant.rest
    (nil_from_length (into_iter_items c.loop-entry.rest) (omega (arith, c.in_default-next.ensures.cases.0, c.loop-entry.rest.rest.ok))) in
    kept-all c.args.nodes.items c.requires.right c.args.root c.args.marks.now c.requires.marked c.loop-entry.place
    c.loop-entry.kept.nodes.items c.loop-entry.kept.names.items c.loop-entry.invariant.kept
    past c.requires.inside
