use Rattle.std.proofs.Common.{◌∙◌}
use Rattle.std.proofs.lemmas.List.Elements.{All-push}
use Rattle.hx_fill.specs.declared.threats.Between.{Between}
use Rattle.hx_fill.specs.Musts.{IsBetween}
use Rattle.hx_fill.proofs.ThreatLaws.{places_more, between_sorted, next_live}
use Rattle.hx_fill.proofs.threats.links_between.Goals as goal

pub loop-place-preserved : goal.loop-place-preserved
loop-place-preserved c =
    let link : Between = record { place = c.in-Some.place; carrier = c.carrier-carrier.result } in
    let split = rw c.in-Some.ensures.steps at c.loop-place.invariant.split in
    rw (c.push_reserved.ensures.items, c.reserve.ensures.items) (record {
      each = All-push (IsBetween c.args.set.now) c.loop-place.links.items link c.loop-place.invariant.each (record {
        live = next_live c.args.set.now c.live-place-items.result c.loop-place.links.items c.in-Some.place c.next.new.self
            c.live-place-items.ensures.each
            (split ∙ c.into_iter-place-iterator.ensures.into_iter_gives);
        carrier = c.carrier-carrier.ensures.held;
      });
      split = places_more c.loop-place.links.items link c.next.new.self c.into_iter-place-iterator.result split;
    })

pub returns : goal.returns
returns c =
    let split = rw c.in-None.ensures.steps.0 at c.loop-place.invariant.split in
    between_sorted c.args.set.now c.loop-place.links.items c.sort_by_key.new.self.items c.live-place-items.result
    c.loop-place.invariant.each
    (split ∙ c.into_iter-place-iterator.ensures.into_iter_gives) c.live-place-items.ensures.all c.sort_by_key.ensures.permutation
