use Rattle.std.proofs.Common.{rules, ap, ◌∙◌, ◌<◌, [], sym, subst, append-nil}
use Rattle.std.specs.Prelude.{sum}
use Rattle.hx_board.specs.Positions.{Board}
use Rattle.hx_board.specs.Graph.{HasNoChain}
use Rattle.hx_count.specs.Machine.{held_in_all}
use Rattle.hx_count.specs.Seats.{Seat, own}
use Rattle.hx_share.specs.Readers.{Reader, sight_of}
use Rattle.hx_tree.specs.Entries.{Extends}
use Rattle.hx_pool.specs.Ends.{EndsSpent}
use Rattle.hx_worker.proofs.StopLaws.{ended-found, found-spent}
use Rattle.hx_worker.proofs.benches.work_at.Goals as goal

pub returns-in_default-clause-grew : goal.returns-in_default-clause-grew
returns-in_default-clause-grew g c = ([], sym (append-nil c.args.seats.book.seen))

pub returns-clause-book : goal.returns-clause-book
returns-clause-book g c =
    let back = c.done_of.ensures in
    let same_slots = c.work-ended.ensures.grew.slots in
    let same_object = c.work-ended.ensures.grew.over in search rules

pub returns-clause-nothing_held : goal.returns-clause-nothing_held
returns-clause-nothing_held g c =
    rw c.done_of.ensures.counts
    (ap sum c.work-ended.ensures.seat.same_held ∙ ap (λ (s : Seat). held_in_all (own s)) c.job_of-job.ensures.seat ∙ c.requires.nothing_held)

pub returns-clause-grew : goal.returns-clause-grew
returns-clause-grew g c =
    subst (λ (r : Reader). Extends c.args.seats.book.seen r.seen) (sym c.done_of.ensures.book)
    (subst (λ (r : Reader). Extends r.seen c.work-ended.new.job.proofs.seat.seen) c.job_of-job.ensures.book c.work-ended.ensures.grew.seen)

pub returns-clause-ended : goal.returns-clause-ended
returns-clause-ended g c =
    let back = c.done_of.ensures in
    let ended = ended-found (sight_of c.work-ended.new.job.proofs.seat) _ _ _ _ c.work-ended.ensures.ended in search rules

pub returns-clause-no_chain : goal.returns-clause-no_chain
returns-clause-no_chain g c =
    let back = c.done_of.ensures in
    λ spent some.
    let more = subst (λ (s : Seat). (own c.args.seats.counts).granted < (own s).granted) back.counts some in
    let granted = subst (λ (s : Seat). (own s).granted < (own c.work-ended.new.job.seat).granted) (sym c.job_of-job.ensures.seat) more in
    let tried = c.work-ended.ensures.tried (found-spent _ (subst EndsSpent (back.end ∙ c.found.ensures) spent)) granted in
    subst (λ (board : Board). HasNoChain board) c.job_of-job.ensures.position tried.no_chain
