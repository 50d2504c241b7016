use Rattle.hx_walk.proofs.WalkLaws.{keeps-itself, keeps-on}
use Rattle.hx_walk.proofs.answers.Walk+K+G+R+Workspace+LinkSet.without_marked.Goals as goal

pub loop-cell-init : goal.loop-cell-init
loop-cell-init g c = keeps-itself _ c.args.self.now

pub returns-in_err-kept-clause-keeps : goal.returns-in_err-kept-clause-keeps
returns-in_err-kept-clause-keeps g c = keeps-on _ _ _ _ c.loop-cell.invariant c.without_proved.ensures.keeps

pub loop-cell-preserved : goal.loop-cell-preserved
loop-cell-preserved g c = keeps-on _ _ _ _ c.loop-cell.invariant c.without_proved.ensures.keeps
