use Rattle.hx_walk.proofs.WalkLaws.{keeps-known, keeps-on}
use Rattle.hx_walk.proofs.visits.Walk+K+G+R+Workspace+LinkSet.look_up.Goals as goal

pub returns-in_err-of_position-clause-keeps : goal.returns-in_err-of_position-clause-keeps
returns-in_err-of_position-clause-keeps g c = keeps-known _ _ _ c.of_position.ensures.goes

pub returns-in-Proved-clause-keeps : goal.returns-in-Proved-clause-keeps
returns-in-Proved-clause-keeps g c = keeps-known _ _ _ c.of_position.ensures.goes

pub returns-in_err-by_chain-clause-keeps : goal.returns-in_err-by_chain-clause-keeps
returns-in_err-by_chain-clause-keeps g c =
    keeps-on _ _ _ _ (keeps-known _ _ _ c.of_position.ensures.goes) c.by_chain.ensures.keeps

pub returns-in-Proved-2-clause-keeps : goal.returns-in-Proved-2-clause-keeps
returns-in-Proved-2-clause-keeps g c =
    keeps-on _ _ _ _ (keeps-known _ _ _ c.of_position.ensures.goes) c.by_chain.ensures.keeps

pub returns-clause-keeps : goal.returns-clause-keeps
returns-clause-keeps g c =
    keeps-on _ _ _ _ (keeps-on _ _ _ _ (keeps-known _ _ _ c.of_position.ensures.goes) c.by_chain.ensures.keeps)
    c.by_chain-2.ensures.keeps
