use Rattle.std.proofs.Common.{◌≡◌, Some, arith}
use Rattle.std.specs.Prelude.{slice_get}
use Rattle.std.proofs.lemmas.Option.{slice_get_within}
use Rattle.hx_linkset.specs.States.{State}
use Rattle.hx_linkset.specs.Marks.{IsLastMarkBelow}
use Rattle.hx_linkset.proofs.MarkLaws.{marked-inside}
use Rattle.hx_linkset.proofs.ClosedLaws.{part-before, marked-step, closed-begun, under-begun, closed-more, under-more, closed-all}
use Rattle.hx_linkset.proofs.derivations.wanted_for.Goals as goal

pub mark_all-requires : goal.mark_all-requires
mark_all-requires c = λ place s.
    let live = c.requires.live place s in
    omega (arith, slice_get_within c.args.links.now place live.0 live.1.0, c.in-Ok.ensures.long)

pub loop-place-init : goal.loop-place-init
loop-place-init c =
    let s : State = record { board = c.args.position.now; links = c.args.links.now; steps = c.args.steps.now } in
    record {
      closed = closed-begun c.args.player s c.requires.right c.args.named.now c.in-Ok.marks.items c.mark_all.new.marks.items c.in-Ok.ensures
          c.mark_all.ensures c.requires.live;
      named = under-begun c.args.player s c.requires.right c.args.named.now c.in-Ok.marks.items c.mark_all.new.marks.items c.in-Ok.ensures
          c.mark_all.ensures c.requires.live;
      count = omega arith;
    }

pub mark_parts-requires : goal.mark_parts-requires
mark_parts-requires c = λ part named.
    let s : State = record { board = c.args.position.now; links = c.args.links.now; steps = c.args.steps.now } in
    let at : IsLastMarkBelow c.loop-place.marks.items c.loop-place.bound c.in-Some.place =
    rw c.as_slice.ensures.value at c.in-Some.ensures in
    let there : slice_get c.args.steps.now c.in-Some.place ≡ Some c.index-steps-place.result =
    marked-step c.args.player s c.requires.right _ c.loop-place.invariant.closed.long _ at.marked _ c.index-steps-place.is in
    let before = part-before c.args.player s c.requires.right c.in-Some.place c.index-steps-place.result
    (c.loop-place.invariant.closed.live c.in-Some.place at.marked) there part named in
    omega (arith, before.0, marked-inside c.loop-place.marks.items c.in-Some.place at.marked)

pub loop-place-preserved : goal.loop-place-preserved
loop-place-preserved c =
    let s : State = record { board = c.args.position.now; links = c.args.links.now; steps = c.args.steps.now } in
    let at : IsLastMarkBelow c.loop-place.marks.items c.loop-place.bound c.in-Some.place =
    rw c.as_slice.ensures.value at c.in-Some.ensures in
    let there : slice_get c.args.steps.now c.in-Some.place ≡ Some c.index-steps-place.result =
    marked-step c.args.player s c.requires.right _ c.loop-place.invariant.closed.long _ at.marked _ c.index-steps-place.is in
    record {
      closed = closed-more c.args.player s c.requires.right c.loop-place.bound c.in-Some.place c.loop-place.marks.items
          c.mark_parts.new.marks.items c.loop-place.invariant.closed at c.index-steps-place.result there c.mark_parts.ensures;
      named = under-more c.args.player s c.requires.right c.loop-place.bound c.in-Some.place c.loop-place.marks.items
          c.mark_parts.new.marks.items c.loop-place.invariant.closed at c.index-steps-place.result there c.mark_parts.ensures
          c.args.named.now c.loop-place.invariant.named;
      count = omega (arith, c.loop-place.invariant.count, at.below);
    }

pub returns-clause-closed : goal.returns-clause-closed
returns-clause-closed c =
    let s : State = record { board = c.args.position.now; links = c.args.links.now; steps = c.args.steps.now } in
    closed-all c.args.player s c.requires.right c.loop-place.bound c.loop-place.marks.items c.loop-place.invariant.closed
    (rw c.as_slice.ensures.value at c.in_default-last_below.ensures)
