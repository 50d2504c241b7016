use Rattle.std.proofs.Common.{◌≡◌, ℕ, List, map, true, ap, ◌∙◌}
use Rattle.std.proofs.lemmas.List.{take_all}
use Rattle.std.specs.Prelude.{slice_index, is_ok}
use Rattle.hx_linkset.proofs.MarkLaws.{stands-here}
use Rattle.hx_linkset.proofs.RenamingLaws.{names-more}
use Rattle.hx_linkset.proofs.renaming.names_of.Goals as goal

pub bounds-names-place : goal.bounds-names-place
bounds-names-place c = c.requires _ (stands-here c.args.places.now c.loop-place.place-index c.loop-place-test.true)

pub loop-place-preserved : goal.loop-place-preserved
loop-place-preserved c =
    let ok : is_ok c.push.result ≡ true = rw c.if-is_err.false at c.is_err.ensures.negation in
    names-more (λ (place : ℕ). slice_index c.args.names.now place) c.args.places.now c.loop-place.place-index _ _ c.loop-place-test.true
    c.loop-place.invariant (rw ok at c.push.ensures.items)

pub loop-place-init : goal.loop-place-init
loop-place-init c = c.in-Ok.ensures.items

pub returns : goal.returns
returns c =
    c.loop-place.invariant
    ∙ ap (λ (places : List ℕ). map (λ (place : ℕ). slice_index c.args.names.now place) places)
    (take_all c.loop-place.place-index c.args.places.now c.loop-place-test.false)
