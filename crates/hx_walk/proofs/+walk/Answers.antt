use Rattle.std.proofs.Common.{rules, ◌-◌, ◌<◌, arith}
use Rattle.hx_walk.proofs.WalkLaws.{keeps-itself, keeps-known, keeps-seat, keeps-way, keeps-on, put-set-keeps}
use Rattle.hx_walk.proofs.WalkLaws.{kept-may-hold, kept-may-hold-zero, known-may-hold, set-may-hold, held-may-hold}
use Rattle.hx_dfpn.proofs.KeepLaws.{release-keeps}
use Rattle.hx_walk.proofs.+walk.Goals as goal

-- ---- a visit

pub visits::Walk+K+G+R+Workspace+LinkSet::visit-pass-requires :
    goal.visits::Walk+K+G+R+Workspace+LinkSet::visit-pass-requires
visits::Walk+K+G+R+Workspace+LinkSet::visit-pass-requires g t c κs within = (omega arith, search c.requires)

pub visits::Walk+K+G+R+Workspace+LinkSet::visit-visit_granted-requires :
    goal.visits::Walk+K+G+R+Workspace+LinkSet::visit-visit_granted-requires
visits::Walk+K+G+R+Workspace+LinkSet::visit-visit_granted-requires g t c κs within =
    let may = kept-may-hold _ _ _ _ c.pass.ensures.keeps c.requires in
    (omega arith, search (kept-may-hold g.K.Knows.view _ _ _ (keeps-seat _ _ _ c.ask.ensures.seat) may))

pub visits::Walk+K+G+R+Workspace+LinkSet::visit-returns-clause-keeps :
    goal.visits::Walk+K+G+R+Workspace+LinkSet::visit-returns-clause-keeps
visits::Walk+K+G+R+Workspace+LinkSet::visit-returns-clause-keeps g t c =
    keeps-on _ _ _ _ c.pass.ensures.keeps
    (keeps-on _ _ _ _ (keeps-seat _ _ _ c.ask.ensures.seat) c.visit_granted.ensures.keeps)

-- ---- the position where the winner is to move is passed

pub passes::Walk+K+G+R+Workspace+LinkSet::pass-pass_at-requires :
    goal.passes::Walk+K+G+R+Workspace+LinkSet::pass-pass_at-requires
passes::Walk+K+G+R+Workspace+LinkSet::pass-pass_at-requires g t c κs within = (omega arith, search c.requires)

pub passes::Walk+K+G+R+Workspace+LinkSet::pass_at-by_win-known-requires :
    goal.passes::Walk+K+G+R+Workspace+LinkSet::pass_at-by_win-known-requires
passes::Walk+K+G+R+Workspace+LinkSet::pass_at-by_win-known-requires g t c κs within =
    let may = kept-may-hold g.K.Knows.view _ _ _ (keeps-way _ _ c.note.new.self) c.requires in
    (omega arith, search (set-may-hold _ c.put.new.set _ may))

pub passes::Walk+K+G+R+Workspace+LinkSet::pass_at-returns-clause-keeps :
    goal.passes::Walk+K+G+R+Workspace+LinkSet::pass_at-returns-clause-keeps
passes::Walk+K+G+R+Workspace+LinkSet::pass_at-returns-clause-keeps g t c =
    put-set-keeps _ _ _ _ _ _ _ (keeps-way _ c.args.self.now c.note.new.self) c.in_ok-before.ensures.put
    c.by_win-known.ensures.keeps c.take_back.ensures

-- ---- zones are tried

pub visits::Walk+K+G+R+Workspace+LinkSet::try_zones-loop-init :
    goal.visits::Walk+K+G+R+Workspace+LinkSet::try_zones-loop-init
visits::Walk+K+G+R+Workspace+LinkSet::try_zones-loop-init g t c = keeps-itself _ c.args.self.now

pub visits::Walk+K+G+R+Workspace+LinkSet::try_zones-by_zone-requires :
    goal.visits::Walk+K+G+R+Workspace+LinkSet::try_zones-by_zone-requires
visits::Walk+K+G+R+Workspace+LinkSet::try_zones-by_zone-requires g t c κs within =
    (omega arith, search (kept-may-hold _ _ _ _ c.loop.invariant c.requires))

pub visits::Walk+K+G+R+Workspace+LinkSet::try_zones-returns-in_err-by_zone-clause-keeps :
    goal.visits::Walk+K+G+R+Workspace+LinkSet::try_zones-returns-in_err-by_zone-clause-keeps
visits::Walk+K+G+R+Workspace+LinkSet::try_zones-returns-in_err-by_zone-clause-keeps g t c =
    keeps-on _ _ _ _ c.loop.invariant c.by_zone.ensures.keeps

pub visits::Walk+K+G+R+Workspace+LinkSet::try_zones-returns-in-Proved-clause-keeps :
    goal.visits::Walk+K+G+R+Workspace+LinkSet::try_zones-returns-in-Proved-clause-keeps
visits::Walk+K+G+R+Workspace+LinkSet::try_zones-returns-in-Proved-clause-keeps g t c =
    keeps-on _ _ _ _ c.loop.invariant c.by_zone.ensures.keeps

pub visits::Walk+K+G+R+Workspace+LinkSet::try_zones-returns-then-is_left-clause-keeps :
    goal.visits::Walk+K+G+R+Workspace+LinkSet::try_zones-returns-then-is_left-clause-keeps
visits::Walk+K+G+R+Workspace+LinkSet::try_zones-returns-then-is_left-clause-keeps g t c =
    keeps-on _ _ _ _ c.loop.invariant c.by_zone.ensures.keeps

pub visits::Walk+K+G+R+Workspace+LinkSet::try_zones-sketch-requires :
    goal.visits::Walk+K+G+R+Workspace+LinkSet::try_zones-sketch-requires
visits::Walk+K+G+R+Workspace+LinkSet::try_zones-sketch-requires g t c =
    kept-may-hold-zero _ _ _ _ (keeps-on _ _ _ _ c.loop.invariant c.by_zone.ensures.keeps) c.requires

pub visits::Walk+K+G+R+Workspace+LinkSet::try_zones-returns-in_err-sketch-clause-keeps :
    goal.visits::Walk+K+G+R+Workspace+LinkSet::try_zones-returns-in_err-sketch-clause-keeps
visits::Walk+K+G+R+Workspace+LinkSet::try_zones-returns-in_err-sketch-clause-keeps g t c =
    keeps-on _ _ _ _ (keeps-on _ _ _ _ c.loop.invariant c.by_zone.ensures.keeps) c.sketch.ensures.keeps

pub visits::Walk+K+G+R+Workspace+LinkSet::try_zones-loop-preserved :
    goal.visits::Walk+K+G+R+Workspace+LinkSet::try_zones-loop-preserved
visits::Walk+K+G+R+Workspace+LinkSet::try_zones-loop-preserved g t c =
    keeps-on _ _ _ _ (keeps-on _ _ _ _ c.loop.invariant c.by_zone.ensures.keeps) c.sketch.ensures.keeps

pub visits::Walk+K+G+R+Workspace+LinkSet::try_zones-search-requires :
    goal.visits::Walk+K+G+R+Workspace+LinkSet::try_zones-search-requires
visits::Walk+K+G+R+Workspace+LinkSet::try_zones-search-requires g t c =
    kept-may-hold-zero _ _ _ _ c.loop.invariant c.requires

pub visits::Walk+K+G+R+Workspace+LinkSet::try_zones-returns-in_err-search-clause-keeps :
    goal.visits::Walk+K+G+R+Workspace+LinkSet::try_zones-returns-in_err-search-clause-keeps
visits::Walk+K+G+R+Workspace+LinkSet::try_zones-returns-in_err-search-clause-keeps g t c =
    keeps-on _ _ _ _ c.loop.invariant c.search.ensures.keeps

pub visits::Walk+K+G+R+Workspace+LinkSet::try_zones-returns-clause-keeps :
    goal.visits::Walk+K+G+R+Workspace+LinkSet::try_zones-returns-clause-keeps
visits::Walk+K+G+R+Workspace+LinkSet::try_zones-returns-clause-keeps g t c =
    keeps-on _ _ _ _ c.loop.invariant
    (keeps-on _ _ _ _ c.search.ensures.keeps (keeps-known _ _ _ c.of_position.ensures.goes))

pub claims::Walk+K+G+R+Workspace+LinkSet::by_zone-at_wide-requires :
    goal.claims::Walk+K+G+R+Workspace+LinkSet::by_zone-at_wide-requires
claims::Walk+K+G+R+Workspace+LinkSet::by_zone-at_wide-requires g t c κs within = (omega arith, search c.requires)

-- ---- by the zone that claims a position

pub claims::Walk+K+G+R+Workspace+LinkSet::at_wide-by_unfilled-requires :
    goal.claims::Walk+K+G+R+Workspace+LinkSet::at_wide-by_unfilled-requires
claims::Walk+K+G+R+Workspace+LinkSet::at_wide-by_unfilled-requires g t c κs within = (omega arith, search c.requires)

pub claims::Walk+K+G+R+Workspace+LinkSet::at_wide-at_filled-requires :
    goal.claims::Walk+K+G+R+Workspace+LinkSet::at_wide-at_filled-requires
claims::Walk+K+G+R+Workspace+LinkSet::at_wide-at_filled-requires g t c κs within =
    let may = kept-may-hold _ _ _ _ c.by_unfilled.ensures.keeps c.requires in
    (omega arith, search (kept-may-hold g.K.Knows.view _ _ _ (keeps-way _ _ c.note.new.self) may))

pub claims::Walk+K+G+R+Workspace+LinkSet::at_filled-at_set-known-requires :
    goal.claims::Walk+K+G+R+Workspace+LinkSet::at_filled-at_set-known-requires
claims::Walk+K+G+R+Workspace+LinkSet::at_filled-at_set-known-requires g t c κs within =
    let may = kept-may-hold _ _ _ _ c.look_up.ensures.keeps c.requires in
    (omega arith, search (set-may-hold _ c.put.new.set _ may))

pub claims::Walk+K+G+R+Workspace+LinkSet::at_filled-returns-clause-keeps :
    goal.claims::Walk+K+G+R+Workspace+LinkSet::at_filled-returns-clause-keeps
claims::Walk+K+G+R+Workspace+LinkSet::at_filled-returns-clause-keeps g t c =
    put-set-keeps _ _ _ _ _ _ _ c.look_up.ensures.keeps c.in_ok-before.ensures.put c.at_set-known.ensures.keeps
    c.take_back.ensures

pub claims::Walk+K+G+R+Workspace+LinkSet::at_set-by_moves-requires :
    goal.claims::Walk+K+G+R+Workspace+LinkSet::at_set-by_moves-requires
claims::Walk+K+G+R+Workspace+LinkSet::at_set-by_moves-requires g t c κs within =
    (omega arith, search (kept-may-hold _ _ _ _ c.by_links.ensures.keeps c.requires))

pub claims::Walk+K+G+R+Workspace+LinkSet::at_set-returns-in_err-sketch_anew-clause-keeps :
    goal.claims::Walk+K+G+R+Workspace+LinkSet::at_set-returns-in_err-sketch_anew-clause-keeps
claims::Walk+K+G+R+Workspace+LinkSet::at_set-returns-in_err-sketch_anew-clause-keeps g t c =
    keeps-on _ _ _ _ (keeps-on _ _ _ _ c.by_links.ensures.keeps c.by_moves.ensures.keeps) c.sketch_anew.ensures.keeps

pub claims::Walk+K+G+R+Workspace+LinkSet::at_set-by_moves-requires-2 :
    goal.claims::Walk+K+G+R+Workspace+LinkSet::at_set-by_moves-requires-2
claims::Walk+K+G+R+Workspace+LinkSet::at_set-by_moves-requires-2 g t c κs within =
    let twice = keeps-on _ _ _ _ c.by_links.ensures.keeps c.by_moves.ensures.keeps in
    (omega arith, search (kept-may-hold _ _ _ _ (keeps-on _ _ _ _ twice c.sketch_anew.ensures.keeps) c.requires))

pub claims::Walk+K+G+R+Workspace+LinkSet::by_moves-by_win-requires :
    goal.claims::Walk+K+G+R+Workspace+LinkSet::by_moves-by_win-requires
claims::Walk+K+G+R+Workspace+LinkSet::by_moves-by_win-requires g t c κs within = (omega arith, search c.requires)

pub claims::Walk+K+G+R+Workspace+LinkSet::by_moves-by_answers-requires :
    goal.claims::Walk+K+G+R+Workspace+LinkSet::by_moves-by_answers-requires
claims::Walk+K+G+R+Workspace+LinkSet::by_moves-by_answers-requires g t c κs within = (omega arith, search c.requires)

-- ---- before anything is filled in

pub unfilled::Walk+K+G+R+Workspace+LinkSet::by_unfilled-at_unfilled-known-requires :
    goal.unfilled::Walk+K+G+R+Workspace+LinkSet::by_unfilled-at_unfilled-known-requires
unfilled::Walk+K+G+R+Workspace+LinkSet::by_unfilled-at_unfilled-known-requires g t c κs within =
    let may = kept-may-hold g.K.Knows.view _ _ _ (keeps-way _ _ c.note.new.self) c.requires in
    (omega arith, search (set-may-hold _ c.put.new.set _ may))

pub unfilled::Walk+K+G+R+Workspace+LinkSet::by_unfilled-returns-clause-keeps :
    goal.unfilled::Walk+K+G+R+Workspace+LinkSet::by_unfilled-returns-clause-keeps
unfilled::Walk+K+G+R+Workspace+LinkSet::by_unfilled-returns-clause-keeps g t c =
    put-set-keeps _ _ _ _ _ _ _ (keeps-way _ c.args.self.now c.note.new.self) c.in_ok-before.ensures.put
    c.at_unfilled-known.ensures.keeps c.take_back.ensures

pub unfilled::Walk+K+G+R+Workspace+LinkSet::at_unfilled-by_answers-requires :
    goal.unfilled::Walk+K+G+R+Workspace+LinkSet::at_unfilled-by_answers-requires
unfilled::Walk+K+G+R+Workspace+LinkSet::at_unfilled-by_answers-requires g t c κs within =
    let kept = keeps-on _ _ _ _ c.by_links.ensures.keeps c.look_up.ensures.keeps in
    (omega arith, search (kept-may-hold _ _ _ _ kept c.requires))

pub unfilled::Walk+K+G+R+Workspace+LinkSet::at_unfilled-returns-clause-keeps :
    goal.unfilled::Walk+K+G+R+Workspace+LinkSet::at_unfilled-returns-clause-keeps
unfilled::Walk+K+G+R+Workspace+LinkSet::at_unfilled-returns-clause-keeps g t c =
    keeps-on _ _ _ _ (keeps-on _ _ _ _ c.by_links.ensures.keeps c.look_up.ensures.keeps) c.by_answers.ensures.keeps

-- ---- the winner is to move

pub wins::Walk+K+G+R+Workspace+LinkSet::by_win-loop-init :
    goal.wins::Walk+K+G+R+Workspace+LinkSet::by_win-loop-init
wins::Walk+K+G+R+Workspace+LinkSet::by_win-loop-init g t c = c.won_by_any.ensures.keeps

pub wins::Walk+K+G+R+Workspace+LinkSet::by_win-smallest-requires :
    goal.wins::Walk+K+G+R+Workspace+LinkSet::by_win-smallest-requires
wins::Walk+K+G+R+Workspace+LinkSet::by_win-smallest-requires g t c =
    kept-may-hold-zero _ _ _ _ c.loop.invariant c.requires

pub wins::Walk+K+G+R+Workspace+LinkSet::by_win-returns-in_default-smallest-clause-keeps :
    goal.wins::Walk+K+G+R+Workspace+LinkSet::by_win-returns-in_default-smallest-clause-keeps
wins::Walk+K+G+R+Workspace+LinkSet::by_win-returns-in_default-smallest-clause-keeps g t c =
    keeps-on _ _ _ _ c.loop.invariant c.smallest.ensures.keeps

pub wins::Walk+K+G+R+Workspace+LinkSet::by_win-descend-requires :
    goal.wins::Walk+K+G+R+Workspace+LinkSet::by_win-descend-requires
wins::Walk+K+G+R+Workspace+LinkSet::by_win-descend-requires g t c κs within =
    let chosen = keeps-on _ _ _ _ c.loop.invariant c.smallest.ensures.keeps in
    (omega arith, search (kept-may-hold _ _ _ _ chosen c.requires))

pub wins::Walk+K+G+R+Workspace+LinkSet::by_win-returns-in_err-below-clause-keeps :
    goal.wins::Walk+K+G+R+Workspace+LinkSet::by_win-returns-in_err-below-clause-keeps
wins::Walk+K+G+R+Workspace+LinkSet::by_win-returns-in_err-below-clause-keeps g t c =
    keeps-on _ _ _ _ (keeps-on _ _ _ _ c.loop.invariant c.smallest.ensures.keeps) c.descend.ensures.keeps

pub wins::Walk+K+G+R+Workspace+LinkSet::by_win-returns-in_err-known-clause-keeps :
    goal.wins::Walk+K+G+R+Workspace+LinkSet::by_win-returns-in_err-known-clause-keeps
wins::Walk+K+G+R+Workspace+LinkSet::by_win-returns-in_err-known-clause-keeps g t c =
    keeps-on _ _ _ _ (keeps-on _ _ _ _ c.loop.invariant c.smallest.ensures.keeps)
    (keeps-on _ _ _ _ c.descend.ensures.keeps c.won_after.ensures.keeps)

pub wins::Walk+K+G+R+Workspace+LinkSet::by_win-returns-then-eq-clause-keeps :
    goal.wins::Walk+K+G+R+Workspace+LinkSet::by_win-returns-then-eq-clause-keeps
wins::Walk+K+G+R+Workspace+LinkSet::by_win-returns-then-eq-clause-keeps g t c =
    keeps-on _ _ _ _ (keeps-on _ _ _ _ c.loop.invariant c.smallest.ensures.keeps)
    (keeps-on _ _ _ _ c.descend.ensures.keeps c.won_after.ensures.keeps)

pub wins::Walk+K+G+R+Workspace+LinkSet::by_win-loop-preserved :
    goal.wins::Walk+K+G+R+Workspace+LinkSet::by_win-loop-preserved
wins::Walk+K+G+R+Workspace+LinkSet::by_win-loop-preserved g t c =
    keeps-on _ _ _ _ (keeps-on _ _ _ _ c.loop.invariant c.smallest.ensures.keeps)
    (keeps-on _ _ _ _ c.descend.ensures.keeps c.won_after.ensures.keeps)

pub wins::Walk+K+G+R+Workspace+LinkSet::by_win-returns-clause-keeps :
    goal.wins::Walk+K+G+R+Workspace+LinkSet::by_win-returns-clause-keeps
wins::Walk+K+G+R+Workspace+LinkSet::by_win-returns-clause-keeps g t c = c.loop.invariant

-- ---- the opponent is to move

pub answers::Walk+K+G+R+Workspace+LinkSet::answer-loop-init :
    goal.answers::Walk+K+G+R+Workspace+LinkSet::answer-loop-init
answers::Walk+K+G+R+Workspace+LinkSet::answer-loop-init g t c = keeps-itself _ c.args.self.now

pub answers::Walk+K+G+R+Workspace+LinkSet::answer-smallest-requires :
    goal.answers::Walk+K+G+R+Workspace+LinkSet::answer-smallest-requires
answers::Walk+K+G+R+Workspace+LinkSet::answer-smallest-requires g t c =
    kept-may-hold-zero _ _ _ _ c.loop.invariant c.requires

pub answers::Walk+K+G+R+Workspace+LinkSet::answer-returns-in_default-clause-keeps :
    goal.answers::Walk+K+G+R+Workspace+LinkSet::answer-returns-in_default-clause-keeps
answers::Walk+K+G+R+Workspace+LinkSet::answer-returns-in_default-clause-keeps g t c =
    keeps-on _ _ _ _ c.loop.invariant c.smallest.ensures.keeps

pub answers::Walk+K+G+R+Workspace+LinkSet::answer-descend-requires :
    goal.answers::Walk+K+G+R+Workspace+LinkSet::answer-descend-requires
answers::Walk+K+G+R+Workspace+LinkSet::answer-descend-requires g t c κs within =
    let chosen = keeps-on _ _ _ _ c.loop.invariant c.smallest.ensures.keeps in
    (omega arith, search (kept-may-hold _ _ _ _ chosen c.requires))

pub answers::Walk+K+G+R+Workspace+LinkSet::answer-returns-in_err-descend-clause-keeps :
    goal.answers::Walk+K+G+R+Workspace+LinkSet::answer-returns-in_err-descend-clause-keeps
answers::Walk+K+G+R+Workspace+LinkSet::answer-returns-in_err-descend-clause-keeps g t c =
    keeps-on _ _ _ _ (keeps-on _ _ _ _ c.loop.invariant c.smallest.ensures.keeps) c.descend.ensures.keeps

pub answers::Walk+K+G+R+Workspace+LinkSet::answer-returns-in_err-known-clause-keeps :
    goal.answers::Walk+K+G+R+Workspace+LinkSet::answer-returns-in_err-known-clause-keeps
answers::Walk+K+G+R+Workspace+LinkSet::answer-returns-in_err-known-clause-keeps g t c =
    keeps-on _ _ _ _ (keeps-on _ _ _ _ c.loop.invariant c.smallest.ensures.keeps)
    (keeps-on _ _ _ _ c.descend.ensures.keeps c.look_at_marked.ensures.keeps)

pub answers::Walk+K+G+R+Workspace+LinkSet::answer-returns-then-eq-clause-keeps :
    goal.answers::Walk+K+G+R+Workspace+LinkSet::answer-returns-then-eq-clause-keeps
answers::Walk+K+G+R+Workspace+LinkSet::answer-returns-then-eq-clause-keeps g t c =
    let down = keeps-on _ _ _ _ (keeps-on _ _ _ _ c.loop.invariant c.smallest.ensures.keeps) c.descend.ensures.keeps in
    let taken = keeps-on _ _ _ _ c.look_at_marked.ensures.keeps c.without_lost-left.ensures.keeps in
    keeps-on _ _ _ _ down taken

pub answers::Walk+K+G+R+Workspace+LinkSet::answer-returns-in_err-left-clause-keeps :
    goal.answers::Walk+K+G+R+Workspace+LinkSet::answer-returns-in_err-left-clause-keeps
answers::Walk+K+G+R+Workspace+LinkSet::answer-returns-in_err-left-clause-keeps g t c =
    let down = keeps-on _ _ _ _ (keeps-on _ _ _ _ c.loop.invariant c.smallest.ensures.keeps) c.descend.ensures.keeps in
    let taken = keeps-on _ _ _ _ c.look_at_marked.ensures.keeps c.without_lost-left.ensures.keeps in
    keeps-on _ _ _ _ (keeps-on _ _ _ _ down taken) c.without_marked.ensures.keeps

pub answers::Walk+K+G+R+Workspace+LinkSet::answer-loop-preserved :
    goal.answers::Walk+K+G+R+Workspace+LinkSet::answer-loop-preserved
answers::Walk+K+G+R+Workspace+LinkSet::answer-loop-preserved g t c =
    let down = keeps-on _ _ _ _ (keeps-on _ _ _ _ c.loop.invariant c.smallest.ensures.keeps) c.descend.ensures.keeps in
    let taken = keeps-on _ _ _ _ c.look_at_marked.ensures.keeps c.without_lost-left.ensures.keeps in
    keeps-on _ _ _ _ (keeps-on _ _ _ _ down taken) c.without_marked.ensures.keeps

pub answers::Walk+K+G+R+Workspace+LinkSet::answer-returns-clause-keeps :
    goal.answers::Walk+K+G+R+Workspace+LinkSet::answer-returns-clause-keeps
answers::Walk+K+G+R+Workspace+LinkSet::answer-returns-clause-keeps g t c = c.loop.invariant

pub answers::Walk+K+G+R+Workspace+LinkSet::by_answers-returns-then-not-are_refuted-clause-keeps :
    goal.answers::Walk+K+G+R+Workspace+LinkSet::by_answers-returns-then-not-are_refuted-clause-keeps
answers::Walk+K+G+R+Workspace+LinkSet::by_answers-returns-then-not-are_refuted-clause-keeps g t c =
    keeps-on _ _ _ _ c.add_threats.ensures.keeps c.moves_to_answer.ensures.keeps

pub answers::Walk+K+G+R+Workspace+LinkSet::by_answers-returns-in_err-asked-clause-keeps :
    goal.answers::Walk+K+G+R+Workspace+LinkSet::by_answers-returns-in_err-asked-clause-keeps
answers::Walk+K+G+R+Workspace+LinkSet::by_answers-returns-in_err-asked-clause-keeps g t c =
    let kept = keeps-on _ _ _ _ c.add_threats.ensures.keeps c.moves_to_answer.ensures.keeps in
    keeps-on _ _ _ _ kept (keeps-known _ _ _ c.of_moves.ensures.goes)

pub answers::Walk+K+G+R+Workspace+LinkSet::by_answers-returns-in-Proved-clause-keeps :
    goal.answers::Walk+K+G+R+Workspace+LinkSet::by_answers-returns-in-Proved-clause-keeps
answers::Walk+K+G+R+Workspace+LinkSet::by_answers-returns-in-Proved-clause-keeps g t c =
    let kept = keeps-on _ _ _ _ c.add_threats.ensures.keeps c.moves_to_answer.ensures.keeps in
    keeps-on _ _ _ _ kept (keeps-known _ _ _ c.of_moves.ensures.goes)

pub answers::Walk+K+G+R+Workspace+LinkSet::by_answers-answer-requires :
    goal.answers::Walk+K+G+R+Workspace+LinkSet::by_answers-answer-requires
answers::Walk+K+G+R+Workspace+LinkSet::by_answers-answer-requires g t c κs within =
    let kept = keeps-on _ _ _ _ c.add_threats.ensures.keeps c.moves_to_answer.ensures.keeps in
    let may = kept-may-hold _ _ _ _ kept c.requires in
    (omega arith, search (known-may-hold c.moves_to_answer.new.self c.of_moves.new.self c.args.depth may))

-- ---- the way down

pub descents::Walk+K+G+R+Workspace+LinkSet::descend-visit-known-requires :
    goal.descents::Walk+K+G+R+Workspace+LinkSet::descend-visit-known-requires
descents::Walk+K+G+R+Workspace+LinkSet::descend-visit-known-requires g t c κs within =
    let less : c.args.depth - 1 < c.args.depth = omega arith in
    let may = held-may-hold c.args.self.now c.loss_word-word.result c.args.depth c.requires in
    (omega arith, search (rules, may))

pub descents::Walk+K+G+R+Workspace+LinkSet::descend-returns-clause-keeps :
    goal.descents::Walk+K+G+R+Workspace+LinkSet::descend-returns-clause-keeps
descents::Walk+K+G+R+Workspace+LinkSet::descend-returns-clause-keeps g t c =
    let visit = c.visit-known.ensures.keeps in record {
      same_worker = visit.same_worker;
      same_known = visit.same_known;
      same_seat = visit.same_seat;
      goes = visit.goes;
      seat =
          release-keeps c.args.self.now.seat.now c.hold.new.seat c.visit-known.new.self.seat.now c.release.new.seat
          c.loss_word-word.result c.hold.ensures.made c.hold.ensures.own visit.seat
          c.release.ensures.made c.release.ensures.own;
      set = visit.set;
    }
