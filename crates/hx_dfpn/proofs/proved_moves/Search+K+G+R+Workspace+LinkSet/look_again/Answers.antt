use Rattle.hx_dfpn.proofs.KeepLaws.{keeps-on}
use Rattle.hx_dfpn.proofs.proved_moves.Search+K+G+R+Workspace+LinkSet.look_again.Goals as goal

pub returns-clause-keeps : goal.returns-clause-keeps
returns-clause-keeps g c = keeps-on _ _ _ _ c.look_at_own.ensures.keeps c.look_at_marked.ensures.keeps
