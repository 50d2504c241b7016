use Rattle.std.proofs.Common.{◌≡◌, ◌+◌, ◌≤◌, ℕ, [], ◌∷◌, ◌++◌, length, set, ap, ◌∙◌, true, Some, arith}
use Rattle.std.specs.Prelude.{slice_get, slice_index, is_ok}
use Rattle.hx_link.specs.declared.steps.Step.{Step}
use Rattle.hx_linkset.specs.States.{State}
use Rattle.hx_linkset.specs.Marks.{IsMarked, IsFirstMarkFrom}
use Rattle.hx_linkset.specs.Derivations.{AreKeptBelow, renamed}
use Rattle.hx_linkset.proofs.MarkLaws.{marked-inside}
use Rattle.hx_linkset.proofs.ClosedLaws.{part-before, marked-step}
use Rattle.hx_linkset.proofs.KeptStepLaws.{kept-none, kept-more, kept-all}
use Rattle.hx_linkset.proofs.derivations.kept_for.Goals as goal

pub loop-place-init : goal.loop-place-init
loop-place-init c =
    let s : State = record { board = c.args.position.now; links = c.args.links.now; steps = c.args.steps.now } in
    rw c.in-Ok-with_capacity.ensures.items
    (kept-none c.args.player s c.args.wanted.now.marks.items c.in-Ok.names.items (omega (arith, c.in-Ok.ensures.len, c.in-Ok.names.ok)))

pub returns : goal.returns
returns c =
    let s : State = record { board = c.args.position.now; links = c.args.links.now; steps = c.args.steps.now } in
    let none : (place : ℕ) → c.loop-place.bound ≤ place → IsMarked c.args.wanted.now.marks.items place → ⊥ =
    rw c.as_slice.ensures.value at c.in_default-first_from.ensures in
    kept-all c.args.player s c.args.wanted.now.marks.items c.requires.right c.requires.closed c.loop-place.bound c.loop-place.kept.items
    c.loop-place.names.items c.loop-place.invariant none

pub renamed_step-requires : goal.renamed_step-requires
renamed_step-requires c = λ part named.
    let s : State = record { board = c.args.position.now; links = c.args.links.now; steps = c.args.steps.now } in
    let at : IsFirstMarkFrom c.args.wanted.now.marks.items c.loop-place.bound c.in-Some.place =
    rw c.as_slice.ensures.value at c.in-Some.ensures in
    let there : slice_get c.args.steps.now c.in-Some.place ≡ Some c.index-steps-place.result =
    marked-step c.args.player s c.requires.right _ c.requires.closed.long _ at.marked _ c.index-steps-place.is in
    let before = part-before c.args.player s c.requires.right c.in-Some.place c.index-steps-place.result
    (c.requires.closed.live c.in-Some.place at.marked) there part named in
    rw c.as_slice-in-Some.ensures.value
    (omega (arith, before.0, marked-inside c.args.wanted.now.marks.items c.in-Some.place at.marked, c.requires.closed.long, c.loop-place.invariant.named))

pub loop-place-preserved : goal.loop-place-preserved
loop-place-preserved c =
    let s : State = record { board = c.args.position.now; links = c.args.links.now; steps = c.args.steps.now } in
    let at : IsFirstMarkFrom c.args.wanted.now.marks.items c.loop-place.bound c.in-Some.place =
    rw c.as_slice.ensures.value at c.in-Some.ensures in
    let there : slice_get c.args.steps.now c.in-Some.place ≡ Some c.index-steps-place.result =
    marked-step c.args.player s c.requires.right _ c.requires.closed.long _ at.marked _ c.index-steps-place.is in
    let made : c.in-Ok-renamed_step.step ≡ renamed (λ (p : ℕ). slice_index c.loop-place.names.items p) c.index-steps-place.result =
    rw c.as_slice-in-Some.ensures.value at c.in-Ok-renamed_step.ensures in
    let number : c.len.result ≡ length c.loop-place.kept.items = omega (arith, c.len.ensures, c.loop-place.kept.ok) in
    let ok : is_ok c.push.result ≡ true = rw c.if-is_err.false at c.is_err.ensures.negation in
    let pushed : c.push.new.self.items ≡ c.loop-place.kept.items
    ++ renamed (λ (p : ℕ). slice_index c.loop-place.names.items p) c.index-steps-place.result ∷ [] =
    (rw ok at c.push.ensures.items) ∙ ap (λ (st : Step). c.loop-place.kept.items ++ st ∷ []) made in
    let more : AreKeptBelow c.args.player s c.args.wanted.now.marks.items (c.in-Some.place + 1)
    (c.loop-place.kept.items ++ renamed (λ (p : ℕ). slice_index c.loop-place.names.items p) c.index-steps-place.result ∷ [])
    (set c.loop-place.names.items c.in-Some.place (length c.loop-place.kept.items)) =
    kept-more c.args.player s c.args.wanted.now.marks.items c.requires.right c.requires.closed c.loop-place.bound c.loop-place.kept.items
    c.loop-place.names.items c.loop-place.invariant c.in-Some.place at c.index-steps-place.result there in
    rw (pushed, number) more

pub first_from-requires : goal.first_from-requires
first_from-requires c =
    rw c.as_slice.ensures.value (omega (arith, c.requires.closed.long, c.loop-place.invariant.inside))

pub loop-place-smaller : goal.loop-place-smaller
loop-place-smaller c =
    let at : IsFirstMarkFrom c.args.wanted.now.marks.items c.loop-place.bound c.in-Some.place =
    rw c.as_slice.ensures.value at c.in-Some.ensures in
    let inside = marked-inside c.args.wanted.now.marks.items c.in-Some.place at.marked in
    omega (arith, at.from, inside, c.requires.closed.long)
