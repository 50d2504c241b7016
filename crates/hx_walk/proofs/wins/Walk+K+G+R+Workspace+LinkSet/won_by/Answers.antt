use Rattle.hx_walk.proofs.WalkLaws.{keeps-itself, keeps-known}
use Rattle.hx_walk.proofs.wins.Walk+K+G+R+Workspace+LinkSet.won_by.Goals as goal

pub returns-then-not-is_empty-clause-keeps : goal.returns-then-not-is_empty-clause-keeps
returns-then-not-is_empty-clause-keeps g c = keeps-itself _ c.args.self.now

pub returns-clause-keeps : goal.returns-clause-keeps
returns-clause-keeps g c = keeps-known _ _ _ c.by_move.ensures.goes
