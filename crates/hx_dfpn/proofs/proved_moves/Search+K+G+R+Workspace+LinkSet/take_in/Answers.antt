use Rattle.hx_dfpn.proofs.KeepLaws.{keeps-itself}
use Rattle.hx_dfpn.proofs.proved_moves.Search+K+G+R+Workspace+LinkSet.take_in.Goals as goal

pub returns-in_err-known-in-Proved-clause-keeps : goal.returns-in_err-known-in-Proved-clause-keeps
returns-in_err-known-in-Proved-clause-keeps g c = c.by_move.ensures.keeps

pub returns-in_ok-known-in-Proved-clause-keeps : goal.returns-in_ok-known-in-Proved-clause-keeps
returns-in_ok-known-in-Proved-clause-keeps g c = c.by_move.ensures.keeps

pub returns-in-Open-clause-keeps : goal.returns-in-Open-clause-keeps
returns-in-Open-clause-keeps g c = keeps-itself _ c.args.self.now
