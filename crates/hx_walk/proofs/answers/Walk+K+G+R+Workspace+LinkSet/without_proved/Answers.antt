use Rattle.hx_walk.proofs.WalkLaws.{keeps-itself, keeps-on}
use Rattle.hx_walk.proofs.answers.Walk+K+G+R+Workspace+LinkSet.without_proved.Goals as goal

pub returns-in_default-clause-keeps : goal.returns-in_default-clause-keeps
returns-in_default-clause-keeps g c = keeps-itself _ c.args.self.now

pub returns-in-Proved-clause-keeps : goal.returns-in-Proved-clause-keeps
returns-in-Proved-clause-keeps g c = keeps-on _ _ _ _ c.look_at_marked.ensures.keeps c.without_lost.ensures.keeps
