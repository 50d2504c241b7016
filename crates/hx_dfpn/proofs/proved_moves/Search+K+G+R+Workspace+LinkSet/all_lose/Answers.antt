use Rattle.hx_dfpn.proofs.KeepLaws.{keeps-known}
use Rattle.hx_dfpn.proofs.proved_moves.Search+K+G+R+Workspace+LinkSet.all_lose.Goals as goal

pub returns-in_err-by_answers-clause-keeps : goal.returns-in_err-by_answers-clause-keeps
returns-in_err-by_answers-clause-keeps g c = keeps-known _ _ _ c.by_answers.ensures.goes

pub returns-in-Proved-clause-keeps : goal.returns-in-Proved-clause-keeps
returns-in-Proved-clause-keeps g c = keeps-known _ _ _ c.by_answers.ensures.goes

pub returns-in-Nothing-clause-keeps : goal.returns-in-Nothing-clause-keeps
returns-in-Nothing-clause-keeps g c = keeps-known _ _ _ c.by_answers.ensures.goes
