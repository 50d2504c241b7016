use Rattle.hx_dfpn.proofs.KeepLaws.{keeps-itself}
use Rattle.hx_dfpn.proofs.looks.Search+K+G+R+Workspace+LinkSet.look_up_filled.Goals as goal

pub returns-then-not-situation-clause-keeps : goal.returns-then-not-situation-clause-keeps
returns-then-not-situation-clause-keeps g c = keeps-itself _ c.args.self.now

pub returns-clause-keeps : goal.returns-clause-keeps
returns-clause-keeps g c = c.look_up.ensures.keeps
