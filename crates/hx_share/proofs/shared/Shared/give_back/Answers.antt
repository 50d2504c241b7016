use Rattle.std.proofs.Common.{◌≡◌, ◌∷◌, sym, ap, ◌∙◌, arith, Some}
use Rattle.atomic_table.specs.Table.{rest}
use Rattle.hx_book.specs.Entries.{contents}
use Rattle.hx_share.specs.OneList.{acting, first_part}
use Rattle.hx_share.proofs.ReaderLaws.{may-give}
use Rattle.hx_share.proofs.shared.Shared.give_back.Goals as goal

pub store-requires : goal.store-requires
store-requires c =
    let t = c.exchange.ensures in let room = c.args.self.now.made.slots in let nodes = c.args.book.nodes in let seen =
    (first_part c.args.seat.now.me.0).seen in
    let holds : c.exchange.new.seat.me ≡ acting room seen (Some (contents room nodes)) =
    t.3 ∙ λ k. ((c.requires.acts k).0, (0, Some (contents (c.requires.slots k) nodes)) ∷ rest (c.requires.acts k).1) in (
      t.0 ∙ (c.requires.table ∙ sym (ap (λ w. w.made.table) c.self.view_is)),
      omega (arith, c.self.invariant.0),
      may-give c.self.inside.table.shared.key room
          (sym (ap (λ w. w.made.slots) c.self.view_is) ∙ sym (ap (λ l. l.slots) c.self.invariant.2))
          c.self.inside.table.shared.table_id.slots c.exchange.new.seat.id c.exchange.new.seat.me seen nodes _ holds c.requires.more
          (omega (arith, c.keeps.ensures.book.held, c.requires.slots)) (omega (arith, c.held.ensures, c.from-word.ensures)),
    )
