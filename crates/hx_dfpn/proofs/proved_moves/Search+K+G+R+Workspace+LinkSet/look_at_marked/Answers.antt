use Rattle.hx_dfpn.proofs.KeepLaws.{keeps-itself, keeps-on}
use Rattle.hx_dfpn.proofs.proved_moves.Search+K+G+R+Workspace+LinkSet.look_at_marked.Goals as goal

pub loop-left-init : goal.loop-left-init
loop-left-init g c = keeps-itself _ c.args.self.now

pub returns-in-Some-clause-keeps : goal.returns-in-Some-clause-keeps
returns-in-Some-clause-keeps g c = keeps-on _ _ _ _ c.loop-left.invariant c.look_at.ensures.keeps

pub loop-left-preserved : goal.loop-left-preserved
loop-left-preserved g c = keeps-on _ _ _ _ c.loop-left.invariant c.look_at.ensures.keeps

pub returns-in_err-outcome-clause-keeps : goal.returns-in_err-outcome-clause-keeps
returns-in_err-outcome-clause-keeps g c = keeps-on _ _ _ _ c.loop-left.invariant c.look_at.ensures.keeps

pub returns-clause-keeps : goal.returns-clause-keeps
returns-clause-keeps g c = c.loop-left.invariant
