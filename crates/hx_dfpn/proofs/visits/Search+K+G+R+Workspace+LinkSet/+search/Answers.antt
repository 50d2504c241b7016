use Rattle.std.proofs.Common.{rules, ◌-◌, ◌<◌, arith}
use Rattle.hx_dfpn.proofs.KeepLaws.{stands-same, keeps-itself, keeps-seat, keeps-own, keeps-others, keeps-way, keeps-on}
use Rattle.hx_dfpn.proofs.KeepLaws.{put-own-keeps, put-others-keeps, has-play}
use Rattle.hx_dfpn.proofs.KeepLaws.{kept-may-hold, own-may-hold, others-may-hold, held-may-hold, release-keeps, stands-moved}
use Rattle.hx_dfpn.proofs.visits.Search+K+G+R+Workspace+LinkSet.+search.Goals as goal

pub descend-visit-outcome-requires : goal.descend-visit-outcome-requires
descend-visit-outcome-requires g t c κs within =
    let less : c.args.depth - 1 < c.args.depth = omega arith in
    let may = held-may-hold c.args.self.now c.loss_word-word.result c.args.depth c.requires in (omega arith, search (rules, may))

pub descend-returns-then-depth-eq0-clause-keeps : goal.descend-returns-then-depth-eq0-clause-keeps
descend-returns-then-depth-eq0-clause-keeps g t c = keeps-itself _ c.args.self.now

pub descend-returns-clause-keeps : goal.descend-returns-clause-keeps
descend-returns-clause-keeps g t c =
    let visit = c.visit-outcome.ensures.keeps in record {
      same_worker = visit.same_worker;
      same_known = visit.same_known;
      same_seat = visit.same_seat;
      goes = visit.goes;
      seat =
          release-keeps c.args.self.now.seat.now c.hold.new.seat c.visit-outcome.new.self.seat.now c.release.new.seat c.loss_word-word.result
          c.hold.ensures.made c.hold.ensures.own visit.seat c.release.ensures.made c.release.ensures.own;
      own = stands-moved _ _ _ _ c.swap.ensures.y_after visit.others c.swap-2.ensures.x_after;
      others = stands-moved _ _ _ _ c.swap.ensures.x_after visit.own c.swap-2.ensures.y_after;
    }

pub expand-returns-in_err-outcome-3-clause-keeps : goal.expand-returns-in_err-outcome-3-clause-keeps
expand-returns-in_err-outcome-3-clause-keeps g t c =
    keeps-on _ _ _ _ (keeps-on _ _ _ _ c.by_others_links.ensures.keeps c.look_at_all.ensures.keeps) c.look_at_marked.ensures.keeps

pub expand-returns-in-Some-3-clause-keeps : goal.expand-returns-in-Some-3-clause-keeps
expand-returns-in-Some-3-clause-keeps g t c =
    keeps-on _ _ _ _ (keeps-on _ _ _ _ c.by_others_links.ensures.keeps c.look_at_all.ensures.keeps) c.look_at_marked.ensures.keeps

pub expand-loop-init : goal.expand-loop-init
expand-loop-init g t c =
    keeps-on _ _ _ _
    (keeps-on _ _ _ _ (keeps-on _ _ _ _ c.by_others_links.ensures.keeps c.look_at_all.ensures.keeps) c.look_at_marked.ensures.keeps)
    (keeps-way _ _ _)

pub expand-returns-in_err-outcome-clause-keeps : goal.expand-returns-in_err-outcome-clause-keeps
expand-returns-in_err-outcome-clause-keeps g t c = c.by_others_links.ensures.keeps

pub expand-returns-in-Some-clause-keeps : goal.expand-returns-in-Some-clause-keeps
expand-returns-in-Some-clause-keeps g t c = c.by_others_links.ensures.keeps

pub expand-returns-in_err-moves-clause-keeps : goal.expand-returns-in_err-moves-clause-keeps
expand-returns-in_err-moves-clause-keeps g t c = c.by_others_links.ensures.keeps

pub expand-returns-in_err-outcome-2-clause-keeps : goal.expand-returns-in_err-outcome-2-clause-keeps
expand-returns-in_err-outcome-2-clause-keeps g t c = keeps-on _ _ _ _ c.by_others_links.ensures.keeps c.look_at_all.ensures.keeps

pub expand-returns-in-Some-2-clause-keeps : goal.expand-returns-in-Some-2-clause-keeps
expand-returns-in-Some-2-clause-keeps g t c = keeps-on _ _ _ _ c.by_others_links.ensures.keeps c.look_at_all.ensures.keeps

pub expand-go_on-requires : goal.expand-go_on-requires
expand-go_on-requires g t c κs within = (omega arith, search (kept-may-hold _ _ _ _ c.loop.invariant c.requires))

pub expand-returns-in_err-outcome-4-clause-keeps : goal.expand-returns-in_err-outcome-4-clause-keeps
expand-returns-in_err-outcome-4-clause-keeps g t c = keeps-on _ _ _ _ c.loop.invariant c.go_on.ensures.keeps

pub expand-returns-in-Some-4-clause-keeps : goal.expand-returns-in-Some-4-clause-keeps
expand-returns-in-Some-4-clause-keeps g t c = keeps-on _ _ _ _ c.loop.invariant c.go_on.ensures.keeps

pub expand-loop-preserved : goal.expand-loop-preserved
expand-loop-preserved g t c = keeps-on _ _ _ _ c.loop.invariant c.go_on.ensures.keeps

pub expand-returns-clause-keeps : goal.expand-returns-clause-keeps
expand-returns-clause-keeps g t c = c.loop.invariant

pub go_on-returns-in_err-outcome-clause-keeps : goal.go_on-returns-in_err-outcome-clause-keeps
go_on-returns-in_err-outcome-clause-keeps g t c = c.look_again.ensures.keeps

pub go_on-returns-in-Some-clause-keeps : goal.go_on-returns-in-Some-clause-keeps
go_on-returns-in-Some-clause-keeps g t c = c.look_again.ensures.keeps

pub go_on-returns-then-is_marked_above-clause-keeps : goal.go_on-returns-then-is_marked_above-clause-keeps
go_on-returns-then-is_marked_above-clause-keeps g t c =
    keeps-on _ _ _ _ c.look_again.ensures.keeps (keeps-seat _ _ _ c.numbers_of-numbers.ensures.seat)

pub go_on-returns-in-Limit-clause-keeps : goal.go_on-returns-in-Limit-clause-keeps
go_on-returns-in-Limit-clause-keeps g t c = keeps-on _ _ _ _ c.look_again.ensures.keeps (keeps-seat _ _ _ c.choose.ensures.seat)

pub go_on-returns-in-AllLose-clause-keeps : goal.go_on-returns-in-AllLose-clause-keeps
go_on-returns-in-AllLose-clause-keeps g t c =
    keeps-on _ _ _ _ (keeps-on _ _ _ _ c.look_again.ensures.keeps (keeps-seat _ _ _ c.choose.ensures.seat)) c.all_lose.ensures.keeps

pub go_on-returns-in_err-all_lose-in-AllLose-clause-keeps : goal.go_on-returns-in_err-all_lose-in-AllLose-clause-keeps
go_on-returns-in_err-all_lose-in-AllLose-clause-keeps g t c =
    keeps-on _ _ _ _ (keeps-on _ _ _ _ c.look_again.ensures.keeps (keeps-seat _ _ _ c.choose.ensures.seat)) c.all_lose.ensures.keeps

pub go_on-returns-in_err-outcome-2-clause-keeps : goal.go_on-returns-in_err-outcome-2-clause-keeps
go_on-returns-in_err-outcome-2-clause-keeps g t c =
    keeps-on _ _ _ _ (keeps-on _ _ _ _ c.look_again.ensures.keeps (keeps-seat _ _ _ c.choose.ensures.seat)) c.descend.ensures.keeps

pub go_on-descend-requires : goal.go_on-descend-requires
go_on-descend-requires g t c κs within =
    let chosen = keeps-on _ _ _ _ c.look_again.ensures.keeps (keeps-seat _ _ _ c.choose.ensures.seat) in
    (omega arith, search (kept-may-hold _ _ _ _ chosen c.requires))

pub go_on-returns-clause-keeps : goal.go_on-returns-clause-keeps
go_on-returns-clause-keeps g t c =
    keeps-on _ _ _ _ (keeps-on _ _ _ _ c.look_again.ensures.keeps (keeps-seat _ _ _ c.choose.ensures.seat))
    (keeps-on _ _ _ _ c.descend.ensures.keeps c.take_in.ensures.keeps)

pub visit-returns-in_err-ask-clause-keeps : goal.visit-returns-in_err-ask-clause-keeps
visit-returns-in_err-ask-clause-keeps g t c = keeps-seat _ _ _ c.ask.ensures.seat

pub visit-visit_granted-requires : goal.visit-visit_granted-requires
visit-visit_granted-requires g t c κs within =
    (omega arith, search (kept-may-hold g.K.Knows.view _ _ _ (keeps-seat _ _ _ c.ask.ensures.seat) c.requires))

pub visit-returns-clause-keeps : goal.visit-returns-clause-keeps
visit-returns-clause-keeps g t c = keeps-on _ _ _ _ (keeps-seat _ _ _ c.ask.ensures.seat) c.visit_granted.ensures.keeps

pub visit_granted-returns-in_err-outcome-clause-keeps : goal.visit_granted-returns-in_err-outcome-clause-keeps
visit_granted-returns-in_err-outcome-clause-keeps g t c = c.look_up.ensures.keeps

pub visit_granted-returns-in-Some-clause-keeps : goal.visit_granted-returns-in-Some-clause-keeps
visit_granted-returns-in-Some-clause-keeps g t c = c.look_up.ensures.keeps

pub visit_granted-returns-in_err-filled-clause-keeps : goal.visit_granted-returns-in_err-filled-clause-keeps
visit_granted-returns-in_err-filled-clause-keeps g t c = c.look_up.ensures.keeps

pub visit_granted-returns-in_err-situation-clause-keeps : goal.visit_granted-returns-in_err-situation-clause-keeps
visit_granted-returns-in_err-situation-clause-keeps g t c = c.look_up.ensures.keeps

pub visit_granted-with_own-requires : goal.visit_granted-with_own-requires
visit_granted-with_own-requires g t c κs within = (omega arith, search (kept-may-hold _ _ _ _ c.look_up.ensures.keeps c.requires))

pub visit_granted-returns-in_err-outcome-2-clause-keeps : goal.visit_granted-returns-in_err-outcome-2-clause-keeps
visit_granted-returns-in_err-outcome-2-clause-keeps g t c = keeps-on _ _ _ _ c.look_up.ensures.keeps c.with_own.ensures.keeps

pub visit_granted-returns-clause-keeps : goal.visit_granted-returns-clause-keeps
visit_granted-returns-clause-keeps g t c =
    keeps-on _ _ _ _ (keeps-on _ _ _ _ c.look_up.ensures.keeps c.with_own.ensures.keeps) c.conclude.ensures.keeps

pub with_others-expand-outcome-requires : goal.with_others-expand-outcome-requires
with_others-expand-outcome-requires g t c κs within =
    let may = kept-may-hold _ _ _ _ c.by_own_links.ensures.keeps c.requires in (omega arith, search (others-may-hold _ c.put.new.set _ may))

pub with_others-returns-in_err-outcome-clause-keeps : goal.with_others-returns-in_err-outcome-clause-keeps
with_others-returns-in_err-outcome-clause-keeps g t c = c.by_own_links.ensures.keeps

pub with_others-returns-in-Some-clause-keeps : goal.with_others-returns-in-Some-clause-keeps
with_others-returns-in-Some-clause-keeps g t c = c.by_own_links.ensures.keeps

pub with_others-returns-in_err-before-clause-keeps : goal.with_others-returns-in_err-before-clause-keeps
with_others-returns-in_err-before-clause-keeps g t c =
    keeps-on _ _ _ _ c.by_own_links.ensures.keeps (keeps-others _ _ _ _ (stands-same _ _ c.in_err-before.ensures.memory))

pub with_others-take_back-requires : goal.with_others-take_back-requires
with_others-take_back-requires g t c = has-play _ _ _ _ c.in_ok-before.ensures.put c.expand-outcome.ensures.keeps.others

pub with_others-returns-clause-keeps : goal.with_others-returns-clause-keeps
with_others-returns-clause-keeps g t c =
    put-others-keeps _ _ _ _ _ _ _ c.by_own_links.ensures.keeps c.in_ok-before.ensures.put c.expand-outcome.ensures.keeps c.take_back.ensures

pub with_own-with_others-outcome-requires : goal.with_own-with_others-outcome-requires
with_own-with_others-outcome-requires g t c κs within =
    let may = kept-may-hold _ _ _ _ c.look_up_filled.ensures.keeps c.requires in (omega arith, search (own-may-hold _ c.put.new.set _ may))

pub with_own-returns-in_err-outcome-clause-keeps : goal.with_own-returns-in_err-outcome-clause-keeps
with_own-returns-in_err-outcome-clause-keeps g t c = c.look_up_filled.ensures.keeps

pub with_own-returns-in-Some-clause-keeps : goal.with_own-returns-in-Some-clause-keeps
with_own-returns-in-Some-clause-keeps g t c = c.look_up_filled.ensures.keeps

pub with_own-returns-in_err-before-clause-keeps : goal.with_own-returns-in_err-before-clause-keeps
with_own-returns-in_err-before-clause-keeps g t c =
    keeps-on _ _ _ _ c.look_up_filled.ensures.keeps (keeps-own _ _ _ _ (stands-same _ _ c.in_err-before.ensures.memory))

pub with_own-take_back-requires : goal.with_own-take_back-requires
with_own-take_back-requires g t c = has-play _ _ _ _ c.in_ok-before.ensures.put c.with_others-outcome.ensures.keeps.own

pub with_own-returns-clause-keeps : goal.with_own-returns-clause-keeps
with_own-returns-clause-keeps g t c =
    put-own-keeps _ _ _ _ _ _ _ c.look_up_filled.ensures.keeps c.in_ok-before.ensures.put c.with_others-outcome.ensures.keeps c.take_back.ensures
