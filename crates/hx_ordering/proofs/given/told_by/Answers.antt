use Rattle.std.proofs.Common.{◌≡◌, ◌+◌, ◌<◌, [], ◌∷◌, ◌++◌, length, take, sym, ap, ◌∙◌, arith, length-set}
use Rattle.std.proofs.lemmas.List.{take_more, take_more_set}
use Rattle.std.proofs.lemmas.List.Elements.{All-set}
use Rattle.hx_pn.specs.Numbers.{IsNumbers}
use Rattle.hx_ordering.specs.declared.children.Child.{Child}
use Rattle.hx_ordering.specs.Given.{IsTold}
use Rattle.hx_ordering.proofs.GivenLaws.{told_more}
use Rattle.hx_ordering.proofs.given.told_by.Goals as goal

pub loop-place-preserved : goal.loop-place-preserved
loop-place-preserved c =
    let place = c.loop-place.place in
    let children = c.args.children.now in
    let child = c.index-children-place.result in
    let told : IsTold child c.with_losses.result = record {
      hinted = c.hinted_or-hinted.result;
      workers = c.with_losses.ensures.value.0;
      own_or_hint = c.hinted_or-hinted.ensures.told;
      harder = c.with_losses.ensures.value.1;
    } in
    let more : take (place + 1) children ≡ take place children ++ child ∷ [] =
    take_more children place child c.loop-place-test.true
    ∙ ap (λ (one : Child). take place children ++ one ∷ []) (sym c.index-children-place.is) in
    let within : place < length c.loop-place.numbers = omega (arith, c.loop-place.invariant.room) in
    record {
      seat = record {
        same_made = c.with_losses.ensures.seat.same_made ∙ c.loop-place.invariant.seat.same_made;
        same_held = c.with_losses.ensures.seat.same_held ∙ c.loop-place.invariant.seat.same_held;
        still_refused = λ is. c.with_losses.ensures.seat.still_refused (c.loop-place.invariant.seat.still_refused is);
      };
      told = rw (more, take_more_set c.loop-place.numbers place c.with_losses.result within)
          (told_more _ _ child c.with_losses.result c.loop-place.invariant.told told);
      room = length-set c.loop-place.numbers place c.with_losses.result ∙ c.loop-place.invariant.room;
      numbers = All-set IsNumbers c.loop-place.numbers place c.with_losses.result c.with_losses.ensures.numbers
          c.loop-place.invariant.numbers;
    }
