use Rattle.hx_walk.proofs.WalkLaws.{keeps-itself, keeps-known}
use Rattle.hx_walk.proofs.answers.Walk+K+G+R+Workspace+LinkSet.without_lost.Goals as goal

pub returns-then-not-is_empty : goal.returns-then-not-is_empty
returns-then-not-is_empty g c = record { keeps = keeps-itself _ _ }

pub returns : goal.returns
returns g c = record { keeps = keeps-known _ _ _ c.refuted_with.ensures.goes }
