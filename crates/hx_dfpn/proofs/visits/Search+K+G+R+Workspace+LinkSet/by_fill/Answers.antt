use Rattle.hx_dfpn.proofs.KeepLaws.{keeps-known}
use Rattle.hx_dfpn.proofs.visits.Search+K+G+R+Workspace+LinkSet.by_fill.Goals as goal

pub returns-in_err-by_fill-clause-keeps : goal.returns-in_err-by_fill-clause-keeps
returns-in_err-by_fill-clause-keeps g c = keeps-known _ _ _ c.by_fill.ensures.goes

pub returns-in-Proved-clause-keeps : goal.returns-in-Proved-clause-keeps
returns-in-Proved-clause-keeps g c = keeps-known _ _ _ c.by_fill.ensures.goes

pub returns-in-Nothing-clause-keeps : goal.returns-in-Nothing-clause-keeps
returns-in-Nothing-clause-keeps g c = keeps-known _ _ _ c.by_fill.ensures.goes
