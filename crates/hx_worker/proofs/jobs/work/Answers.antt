use Rattle.hx_tree.proofs.EntryLaws.{extends-itself}
use Rattle.hx_worker.proofs.StopLaws.{stopped-ended, spent-lacks}
use Rattle.hx_worker.proofs.UnlistedLaws.{unlisted-wider}
use Rattle.hx_worker.proofs.jobs.work.Goals as goal

pub returns-clause-ended : goal.returns-clause-ended
returns-clause-ended g c =
    let spent = rw c.in-Err-Budget.field-0-is at c.in-Err-Budget.ensures.stopped in
    rw c.of-2.ensures
    (stopped-ended (g.P.Proofs.sight c.close_and_end.new.proofs) _ _ _ _ c.close_and_end.ensures.found
    (c.close_and_end.ensures.stopped _ spent))

pub returns-clause-unlisted : goal.returns-clause-unlisted
returns-clause-unlisted g c = λ spent more.
    unlisted-wider _ _ _ _ _ _ _ c.search_by-ended.ensures.grew.seen (extends-itself _)
    (spent-lacks _ _ c.close_and_end.ensures.unlisted (rw c.of-2.ensures at spent))
