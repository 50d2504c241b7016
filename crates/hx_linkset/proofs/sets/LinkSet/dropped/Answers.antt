use Rattle.std.proofs.Common.{◌≡◌, ℕ, List, drop, refl, sym, ap, subst, arith}
use Rattle.hx_linkset.specs.declared.plays.Stage.{Stage}
use Rattle.hx_linkset.specs.States.{Standing}
use Rattle.hx_linkset.specs.LastStones.{AreDropped}
use Rattle.hx_linkset.specs.Plays.{standing}
use Rattle.hx_linkset.proofs.FieldLaws.{first, first-fits, first-dropped}
use Rattle.hx_linkset.proofs.sets.LinkSet.dropped.Goals as goal

pub logged_from-requires : goal.logged_from-requires
logged_from-requires c =
    let first_is : c.before_last-first.result ≡ first _ _ _ _ _ _ _ _ _ _ _ c.self.invariant =
    rw (c.before_last-first.ensures, c.stage_of-now.ensures, c.as_slice.ensures, c.as_slice-2.ensures, c.as_slice-3.ensures.value) refl in
    rw c.as_slice-4.ensures
    (omega (arith, ap (λ (first : Stage). first.logged) first_is, first-fits _ _ _ _ _ _ _ _ _ _ _ c.self.invariant))

pub returns : goal.returns
returns c =
    let first_is : c.before_last-first.result ≡ first _ _ _ _ _ _ _ _ _ _ _ c.self.invariant =
    rw (c.before_last-first.ensures, c.stage_of-now.ensures, c.as_slice.ensures, c.as_slice-2.ensures, c.as_slice-3.ensures.value) refl in
    let since_is : c.logged_from.result.now ≡ drop (first _ _ _ _ _ _ _ _ _ _ _ c.self.invariant).logged c.self.inside.log =
    rw (c.logged_from.ensures, first_is, c.as_slice-4.ensures) refl in
    let P : Standing → Type 0 = λ s. AreDropped s c.logged_from.result.now in
    let Q : List ℕ → Type 0 = λ places.
    AreDropped (standing c.self.inside.colour
    (record { board = c.self.inside.position; links = c.self.inside.links; steps = c.self.inside.steps.items })
    c.self.inside.plays.items) places in
    subst P c.self.view_is (subst Q (sym since_is) (first-dropped _ _ _ _ _ _ _ _ _ _ _ c.self.invariant))
