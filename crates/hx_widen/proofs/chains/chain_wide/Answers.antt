use Rattle.hx_widen.proofs.RefusalLaws.{if_err-unstored}
use Rattle.hx_widen.proofs.chains.chain_wide.Goals as goal

pub returns-clause-stopped : goal.returns-clause-stopped
returns-clause-stopped g c =
    if_err-unstored (g.P.Proofs.sight c.store_chain.new.proofs) _ _ c.store_chain.result c.store_chain.ensures.stopped
