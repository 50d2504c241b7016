use Rattle.hx_dfpn.proofs.KeepLaws.{keeps-itself, keeps-known, keeps-on}
use Rattle.hx_dfpn.proofs.proved_moves.Search+K+G+R+Workspace+LinkSet.look_at.Goals as goal

pub returns-in_default-clause-keeps : goal.returns-in_default-clause-keeps
returns-in_default-clause-keeps g c = keeps-itself _ c.args.self.now

pub returns-then-not-is_marked-clause-keeps : goal.returns-then-not-is_marked-clause-keeps
returns-then-not-is_marked-clause-keeps g c = keeps-itself _ c.args.self.now

pub returns-in_default-after-clause-keeps : goal.returns-in_default-after-clause-keeps
returns-in_default-after-clause-keeps g c = keeps-itself _ c.args.self.now

pub returns-in_err-of_position-clause-keeps : goal.returns-in_err-of_position-clause-keeps
returns-in_err-of_position-clause-keeps g c = keeps-known _ _ _ c.of_position.ensures.goes

pub returns-in-Proved-clause-keeps : goal.returns-in-Proved-clause-keeps
returns-in-Proved-clause-keeps g c = keeps-on _ _ _ _ (keeps-known _ _ _ c.of_position.ensures.goes) c.by_move.ensures.keeps

pub returns-in-Nothing-clause-keeps : goal.returns-in-Nothing-clause-keeps
returns-in-Nothing-clause-keeps g c = keeps-known _ _ _ c.of_position.ensures.goes
