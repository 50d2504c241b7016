use Rattle.hx_walk.proofs.WalkLaws.{keeps-itself, keeps-known}
use Rattle.hx_walk.proofs.visits.Walk+K+G+R+Workspace+LinkSet.look_at_marked.Goals as goal

pub returns-then-not-is_marked-clause-keeps : goal.returns-then-not-is_marked-clause-keeps
returns-then-not-is_marked-clause-keeps g c = keeps-itself _ c.args.self.now

pub returns-in_err-known-clause-keeps : goal.returns-in_err-known-clause-keeps
returns-in_err-known-clause-keeps g c = keeps-known _ _ _ c.of_position.ensures.goes

pub returns-clause-keeps : goal.returns-clause-keeps
returns-clause-keeps g c = keeps-known _ _ _ c.of_position.ensures.goes
