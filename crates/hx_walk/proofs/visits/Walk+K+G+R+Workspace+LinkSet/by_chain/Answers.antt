use Rattle.hx_walk.proofs.WalkLaws.{keeps-itself, keeps-known}
use Rattle.hx_walk.proofs.visits.Walk+K+G+R+Workspace+LinkSet.by_chain.Goals as goal

pub returns-then-not-has_chain-clause-keeps : goal.returns-then-not-has_chain-clause-keeps
returns-then-not-has_chain-clause-keeps g c = keeps-itself _ c.args.self.now

pub returns-in_err-by_chain-clause-keeps : goal.returns-in_err-by_chain-clause-keeps
returns-in_err-by_chain-clause-keeps g c = keeps-known _ _ _ c.by_chain.ensures.goes

pub returns-clause-keeps : goal.returns-clause-keeps
returns-clause-keeps g c = keeps-known _ _ _ c.by_chain.ensures.goes
