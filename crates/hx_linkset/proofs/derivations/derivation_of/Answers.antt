use Rattle.std.proofs.Common.{◌≡◌, ℕ, map, arith}
use Rattle.std.proofs.lemmas.Option.{slice_get_within}
use Rattle.std.specs.Prelude.{slice_index}
use Rattle.hx_linkset.specs.States.{State}
use Rattle.hx_linkset.proofs.KeptStepLaws.{derived}
use Rattle.hx_linkset.proofs.derivations.derivation_of.Goals as goal

pub names_of-requires : goal.names_of-requires
names_of-requires c = λ place s.
    let live = c.requires.live place s in
    rw c.as_slice.ensures.value (omega (arith, slice_get_within c.args.links.now place live.0 live.1.0, c.in-Ok-kept_for.ensures.named))

pub returns : goal.returns
returns c =
    let s : State = record { board = c.args.position.now; links = c.args.links.now; steps = c.args.steps.now } in
    let places : c.in-Ok-names_of.places.items ≡ map (λ (p : ℕ). slice_index c.in-Ok-kept_for.kept.names.items p) c.args.named.now =
    rw c.as_slice.ensures.value at c.in-Ok-names_of.ensures in
    rw (places, c.new-steps.ensures)
    (derived c.args.player s c.in-Ok.wanted.marks.items c.args.named.now c.in-Ok.ensures.closed c.in-Ok.ensures.named
    c.in-Ok-kept_for.kept.steps.items c.in-Ok-kept_for.kept.names.items c.in-Ok-kept_for.ensures)
