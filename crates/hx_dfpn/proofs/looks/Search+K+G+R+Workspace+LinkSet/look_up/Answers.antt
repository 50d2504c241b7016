use Rattle.hx_known.proofs.ViewLaws.{goes-on}
use Rattle.hx_dfpn.proofs.KeepLaws.{keeps-known}
use Rattle.hx_dfpn.proofs.looks.Search+K+G+R+Workspace+LinkSet.look_up.Goals as goal

pub returns-in_err-of_position-clause-keeps : goal.returns-in_err-of_position-clause-keeps
returns-in_err-of_position-clause-keeps g c = keeps-known _ _ _ c.of_position.ensures.goes

pub returns-in-Proved-clause-keeps : goal.returns-in-Proved-clause-keeps
returns-in-Proved-clause-keeps g c = keeps-known _ _ _ c.of_position.ensures.goes

pub returns-in_err-by_chain-clause-keeps : goal.returns-in_err-by_chain-clause-keeps
returns-in_err-by_chain-clause-keeps g c = keeps-known _ _ _ (goes-on _ _ _ c.of_position.ensures.goes c.by_chain.ensures.goes)

pub returns-then-chain-clause-keeps : goal.returns-then-chain-clause-keeps
returns-then-chain-clause-keeps g c = keeps-known _ _ _ (goes-on _ _ _ c.of_position.ensures.goes c.by_chain.ensures.goes)

pub returns-in_err-by_chain-2-clause-keeps : goal.returns-in_err-by_chain-2-clause-keeps
returns-in_err-by_chain-2-clause-keeps g c =
    keeps-known _ _ _ (goes-on _ _ _ c.of_position.ensures.goes c.by_chain-then-chain-2.ensures.goes)

pub returns-then-chain-2-clause-keeps : goal.returns-then-chain-2-clause-keeps
returns-then-chain-2-clause-keeps g c =
    keeps-known _ _ _ (goes-on _ _ _ c.of_position.ensures.goes c.by_chain-then-chain-2.ensures.goes)

pub returns-clause-keeps : goal.returns-clause-keeps
returns-clause-keeps g c = keeps-known _ _ _ c.of_position.ensures.goes
