use Rattle.hx_dfpn.proofs.KeepLaws.{keeps-known}
use Rattle.hx_dfpn.proofs.known_moves.Search+K+G+R+Workspace+LinkSet.look_at_all.Goals as goal

pub returns-in_err-asked-clause-keeps : goal.returns-in_err-asked-clause-keeps
returns-in_err-asked-clause-keeps g c = keeps-known _ _ _ c.of_moves.ensures.goes

pub returns-in-Proved-clause-keeps : goal.returns-in-Proved-clause-keeps
returns-in-Proved-clause-keeps g c = keeps-known _ _ _ c.of_moves.ensures.goes

pub returns-clause-keeps : goal.returns-clause-keeps
returns-clause-keeps g c = keeps-known _ _ _ c.of_moves.ensures.goes
