use Rattle.hx_worker.proofs.LookLaws.{looks-found}
use Rattle.hx_worker.proofs.closing.LastLook.by_closed.Goals as goal

pub returns-in_ok-store_links-in-Decided-clause-looks : goal.returns-in_ok-store_links-in-Decided-clause-looks
returns-in_ok-store_links-in-Decided-clause-looks g c =
    looks-found _ _ _ _ _ c.store_links.ensures.grew c.entry_of.ensures.grew c.entry_of.ensures.found
