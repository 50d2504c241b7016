use Rattle.hx_dfpn.proofs.KeepLaws.{keeps-itself, keeps-known}
use Rattle.hx_dfpn.proofs.proved_moves.Search+K+G+R+Workspace+LinkSet.win_by.Goals as goal

pub returns-then-not-is_empty-clause-keeps : goal.returns-then-not-is_empty-clause-keeps
returns-then-not-is_empty-clause-keeps g c = keeps-itself _ c.args.self.now

pub returns-in_err-known-clause-keeps : goal.returns-in_err-known-clause-keeps
returns-in_err-known-clause-keeps g c = keeps-known _ _ _ c.by_move.ensures.goes

pub returns-clause-keeps : goal.returns-clause-keeps
returns-clause-keeps g c = keeps-known _ _ _ c.by_move.ensures.goes
