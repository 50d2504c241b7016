use Rattle.std.proofs.Common.{◌+◌, refl, sym, ap, ◌∙◌, arith}
use Rattle.hx_share.specs.OneList.{IsTaken, first_part}
use Rattle.hx_share.proofs.ReaderLaws.{may-take, taken-told, has-slot}
use Rattle.hx_share.proofs.shared.Shared.take_book.Goals as goal

pub compare_exchange-requires : goal.compare_exchange-requires
compare_exchange-requires g c =
    let i = c.loop.invariant in let room = c.args.self.now.made.slots in (
      i.table ∙ (c.requires.table ∙ sym (ap (λ w. w.made.table) c.self.view_is)),
      omega (arith, c.self.invariant.0),
      may-take c.self.inside.table.shared.key room
          (sym (ap (λ w. w.made.slots) c.self.view_is) ∙ sym (ap (λ l. l.slots) c.self.invariant.2))
          c.self.inside.table.shared.table_id.slots c.loop.seat.id c.loop.seat.me (first_part c.args.seat.now.me.0).seen c.peek-found.result
          (c.peek-found.result + 1)
          (i.me ∙ c.requires.waits) c.if-found-eq0.true refl,
    )

pub exchange-requires : goal.exchange-requires
exchange-requires g c =
    let i = c.loop.invariant in let room = c.args.self.now.made.slots in let t = c.compare_exchange.ensures in
    let took : IsTaken room (first_part c.args.seat.now.me.0).seen c.compare_exchange.new.seat.me =
    taken-told room c.loop.seat.me c.compare_exchange.new.seat.me (first_part c.args.seat.now.me.0).seen (i.me ∙ c.requires.waits)
    (t.2.0 c.if-compare_exchange-found.true) in (
      t.0 ∙ (i.table ∙ (c.requires.table ∙ sym (ap (λ w. w.made.table) c.self.view_is))),
      has-slot c.compare_exchange.new.seat.me.1 _ _ (ap (λ m. m.1) took.same),
    )
