use Rattle.hx_walk.proofs.WalkLaws.{keeps-itself}
use Rattle.hx_walk.proofs.answers.Walk+K+G+R+Workspace+LinkSet.moves_to_answer.Goals as goal

pub returns-in_err-must-clause-keeps : goal.returns-in_err-must-clause-keeps
returns-in_err-must-clause-keeps g c = keeps-itself _ c.args.self.now

pub returns-clause-keeps : goal.returns-clause-keeps
returns-clause-keeps g c = keeps-itself _ c.args.self.now
