use Rattle.std.proofs.Common.{◌≡◌, ◌≤◌, ◌+◌, ◌-◌, [], ap, sym, ◌∙◌, arith, replicate}
use Rattle.hx_share.specs.declared.views.Role.TheVariants.{Waiting}
use Rattle.hx_share.specs.OneList.{part, view, first_part}
use Rattle.hx_share.specs.Readers.{reader, origin}
use Rattle.hx_share.proofs.Keeps.{cuts-keep}
use Rattle.hx_share.proofs.ReaderLaws.{rest-parts, first-parts, dealt-more}
use Rattle.hx_share.proofs.shared.Shared.deal.Goals as goal

pub split_seat-part-requires : goal.split_seat-part-requires
split_seat-part-requires c = (
  c.loop.invariant.table ∙ sym (ap (λ w. w.made.table) c.self.view_is),
  omega (arith, c.self.invariant.0),
  cuts-keep c.self.inside.table.shared.key c.loop.first.id c.loop.first.me.0,
)

pub loop-preserved : goal.loop-preserved
loop-preserved c = let i = c.loop.invariant in let s = c.split_seat-part.ensures in
    let made = c.args.self.now.made in let seats = c.self.inside.limits.seats in
    let before : 1 ≤ c.loop.counter = c.loop.auto.counter in
    let next : c.loop.counter - 1 + 1 ≡ c.loop.counter + 1 - 1 = omega (arith, before) in
    let less : seats + 1 - c.loop.counter - 1 ≡ seats + 1 - (c.loop.counter + 1) = omega arith in
    let one = first-parts (seats + 1 - c.loop.counter) (part made.slots Waiting []) c.loop.first.me c.split_seat-part.result.me
    (omega (arith, c.loop-test.true)) i.me s.4 in
    let table = s.3 ∙ i.table in
    let new : c.new.result ≡ reader made [] = c.new.ensures ∙ λ k. reader (origin (table k) ((first_part (one k).0).slots)) [] in
    record {
      table = s.0 ∙ i.table;
      me = rest-parts (seats + 1 - c.loop.counter) (part made.slots Waiting []) c.loop.first.me c.split_seat-part.new.seat.me i.me s.2
          ∙ λ k. (view (replicate (less k) (part made.slots Waiting [])), []);
      dealt = dealt-more (c.loop.counter - 1) (reader made []) c.new.result c.loop.seats.items _ i.dealt new c.push_reserved.ensures.items
          ∙ ap (λ n. replicate n (reader made [])) next;
      room = omega (arith, c.push_reserved.ensures.capacity, i.room);
    }
