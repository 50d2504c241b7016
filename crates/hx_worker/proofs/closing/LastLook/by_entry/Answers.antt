use Rattle.hx_worker.proofs.LookLaws.{looks-found}
use Rattle.hx_worker.proofs.UnlistedLaws.{neither-unlisted}
use Rattle.hx_worker.proofs.closing.LastLook.by_entry.Goals as goal

pub returns-in-Done-clause-looks : goal.returns-in-Done-clause-looks
returns-in-Done-clause-looks g c = looks-found _ _ _ _ _ c.store_turned.ensures.grew c.entry_of.ensures.grew c.entry_of.ensures.found

pub returns-in-Missing-clause-unlisted : goal.returns-in-Missing-clause-unlisted
returns-in-Missing-clause-unlisted g c =
    neither-unlisted _ _ _ _ _ c.store_turned.ensures.grew.seen (rw c.in-Missing.is at c.in_ok-store_turned.ensures.missing)
