use Rattle.hx_linkset.proofs.StandingLaws.{keeps-right}
use Rattle.hx_linkset.proofs.sets.LinkSet.keeps.Goals as goal

pub returns-clause-right : goal.returns-clause-right
returns-clause-right c = rw (← c.self.view_is) (keeps-right _ _ _ c.self.invariant.keeps)
