use Rattle.std.proofs.Common.{◌≡◌, ◌∷◌, ◌++◌, ◌≤◌, ◌+◌, ◌-◌, [], ap, sym, ◌∙◌, arith, length, subst}
use Rattle.std.specs.List.{All}
use Rattle.hx_count.specs.Counted.{view, new_parts}
use Rattle.hx_count.specs.Seats.{origin, new_seats}
use Rattle.hx_count.proofs.Keeps.{splits-keep}
use Rattle.hx_count.proofs.DealLaws.{one-new, rest-parts, first-parts, dealt-more, length-new, new-made}
use Rattle.hx_count.proofs.counts.Counts.deal.Goals as goal

pub split_seat-part-requires : goal.split_seat-part-requires
split_seat-part-requires c = let i = c.loop.invariant in let o = c.self.invariant in (
  i.table ∙ sym (ap (λ w. w.table) c.self.view_is),
  omega (arith, o.0),
  splits-keep c.self.inside.table.shared.key c.loop.first.id c.loop.first.me.0,
)

pub new-requires : goal.new-requires
new-requires c = let i = c.loop.invariant in let limits = c.args.self.now.limits in
    one-new limits (c.loop.counter - 1) c.split_seat-part.result.me
    (first-parts limits (c.loop.counter - 1) (c.self.inside.limits.workers + 1 - c.loop.counter) c.loop.first.me c.split_seat-part.result.me
    (omega (arith, c.loop-test.true)) i.me c.split_seat-part.ensures.4)

pub push_reserved-requires : goal.push_reserved-requires
push_reserved-requires c = let i = c.loop.invariant in
    omega (arith, c.loop-test.true, i.room, ap length i.dealt, length-new c.args.self.now 0 (c.loop.counter - 1))

pub loop-preserved : goal.loop-preserved
loop-preserved c = let i = c.loop.invariant in let s = c.split_seat-part.ensures in
    let made = c.args.self.now in let limits = made.limits in let workers = c.self.inside.limits.workers in
    let before : 1 ≤ c.loop.counter = c.loop.auto.counter in
    let next : c.loop.counter - 1 + 1 ≡ c.loop.counter + 1 - 1 = omega (arith, before) in
    let less : workers + 1 - c.loop.counter - 1 ≡ workers + 1 - (c.loop.counter + 1) = omega arith in
    let one = first-parts limits (c.loop.counter - 1) (workers + 1 - c.loop.counter) c.loop.first.me c.split_seat-part.result.me
    (omega (arith, c.loop-test.true)) i.me s.4 in
    record {
      table = s.0 ∙ i.table;
      me = rest-parts limits (c.loop.counter - 1) (workers + 1 - c.loop.counter) c.loop.first.me c.split_seat-part.new.seat.me i.me s.2
          ∙ λ k. (view (new_parts limits (next k) (less k)), []);
      dealt = dealt-more made limits c.split_seat-part.result.table_id (c.loop.counter - 1) c.split_seat-part.result.me c.loop.seats.items _
          (λ k. origin (sym (s.3 ∙ i.table) k) limits) one i.dealt
          (c.push_reserved.ensures.items ∙ λ k. c.loop.seats.items ++ c.new.ensures k ∷ [])
          ∙ ap (new_seats made 0) next;
      room = omega (arith, c.push_reserved.ensures.capacity, i.room);
    }

pub push_reserved-requires-2 : goal.push_reserved-requires-2
push_reserved-requires-2 c = let i = c.loop.invariant in let o = c.self.invariant in
    omega (
      arith,
      c.loop-test.false,
      c.loop.auto.counter-end o.3,
      i.room,
      ap length i.dealt,
      length-new c.args.self.now 0 (c.loop.counter - 1),
      o.3,
    )

pub returns-clause-seats : goal.returns-clause-seats
returns-clause-seats c = let i = c.loop.invariant in let o = c.self.invariant in
    let made = c.args.self.now in let limits = made.limits in let workers = c.self.inside.limits.workers in
    let last : c.loop.counter ≡ workers = omega (arith, c.loop-test.false, c.loop.auto.counter-end o.3) in
    let single : workers + 1 - c.loop.counter ≡ 1 = omega (arith, last) in
    let all : c.loop.counter - 1 + 1 ≡ limits.workers = omega (arith, last, o.3, ap (λ w. w.limits.workers) c.self.view_is) in
    dealt-more made limits c.loop.first.table_id (c.loop.counter - 1) c.loop.first.me c.loop.seats.items _
    (λ k. origin (sym i.table k) limits) (i.me ∙ λ k. (view (new_parts limits (c.loop.counter - 1) (single k)), [])) i.dealt
    (c.push_reserved-2.ensures.items ∙ λ k. c.loop.seats.items ++ c.new-2.ensures k ∷ [])
    ∙ ap (new_seats made 0) all

pub returns-clause-fit : goal.returns-clause-fit
returns-clause-fit c =
    subst (All (λ s. s.made ≡ c.args.self.now)) (sym (returns-clause-seats c)) (new-made c.args.self.now 0 c.args.self.now.limits.workers)
