use Rattle.std.proofs.Common.{arith, ◌<◌, subst}
use Rattle.hx_count.specs.Seats.{Seat, own}
use Rattle.hx_worker.specs.Ends.{EndsSpent}
use Rattle.hx_solve.proofs.lone_searches.work_off.Goals as goal

pub returns-clause-no_chain : goal.returns-clause-no_chain
returns-clause-no_chain g c =
    let back = c.give_back.ensures in
    λ spent some.
    (c.work-ended.ensures.tried (subst EndsSpent back.ended spent)
    (subst (λ (s : Seat). (own c.args.job.seat).granted < (own s).granted) back.seat
    (omega (arith, some, c.requires.nothing.granted)))).no_chain
