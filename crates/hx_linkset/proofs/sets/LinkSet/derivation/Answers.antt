use Rattle.std.proofs.Common.{sym, subst}
use Rattle.hx_linkset.specs.States.{Standing, IsLiveAt}
use Rattle.hx_linkset.proofs.StandingLaws.{keeps-right}
use Rattle.hx_linkset.proofs.sets.LinkSet.derivation.Goals as goal

pub derivation_of-requires-clause-right : goal.derivation_of-requires-clause-right
derivation_of-requires-clause-right c = rw (c.as_slice.ensures, c.as_slice-2.ensures.value) (keeps-right _ _ _ c.self.invariant.keeps)

pub derivation_of-requires-clause-live : goal.derivation_of-requires-clause-live
derivation_of-requires-clause-live c = λ place named.
    let P : Standing → Type 0 = λ s. IsLiveAt s.present.board s.player s.present.links place in
    rw c.as_slice.ensures (subst P (sym c.self.view_is) (c.requires place named))
