use Rattle.hx_worker.proofs.LookLaws.{looks-found}
use Rattle.hx_worker.proofs.closing.LastLook.by_chain.Goals as goal

pub returns-clause-looks : goal.returns-clause-looks
returns-clause-looks g c = looks-found _ _ _ _ _ c.store_chain.ensures.grew c.entry_of.ensures.grew c.entry_of.ensures.found
