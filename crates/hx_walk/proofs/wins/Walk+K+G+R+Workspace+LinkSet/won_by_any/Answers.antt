use Rattle.hx_walk.proofs.WalkLaws.{keeps-itself, keeps-on}
use Rattle.hx_walk.proofs.wins.Walk+K+G+R+Workspace+LinkSet.won_by_any.Goals as goal

pub loop-cell-init : goal.loop-cell-init
loop-cell-init g c = keeps-itself _ c.args.self.now

pub returns-in_err-won_by-clause-keeps : goal.returns-in_err-won_by-clause-keeps
returns-in_err-won_by-clause-keeps g c = keeps-on _ _ _ _ c.loop-cell.invariant c.won_by.ensures.keeps

pub returns-in-Proved-clause-keeps : goal.returns-in-Proved-clause-keeps
returns-in-Proved-clause-keeps g c = keeps-on _ _ _ _ c.loop-cell.invariant c.won_by.ensures.keeps

pub loop-cell-preserved : goal.loop-cell-preserved
loop-cell-preserved g c = keeps-on _ _ _ _ c.loop-cell.invariant c.won_by.ensures.keeps
