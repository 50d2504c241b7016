use Rattle.hx_walk.proofs.WalkLaws.{keeps-itself, keeps-on}
use Rattle.hx_walk.proofs.threats.Walk+K+G+R+Workspace+LinkSet.add_threats.Goals as goal

pub loop-init : goal.loop-init
loop-init g c = keeps-itself _ c.args.self.now

pub loop-preserved : goal.loop-preserved
loop-preserved g c = keeps-on _ _ _ _ c.loop.invariant c.add_threat.ensures.keeps
