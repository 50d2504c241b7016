use Rattle.std.proofs.Common.{◌≡◌, ◌∷◌, [], sym, ap, ◌∙◌, arith}
use Rattle.hx_share.specs.declared.views.Role.TheVariants.{Note}
use Rattle.hx_share.specs.OneList.{part, view, joined, first_part}
use Rattle.hx_share.proofs.Keeps.{joins-keep}
use Rattle.hx_share.proofs.ReaderLaws.{may-settle}
use Rattle.hx_share.proofs.shared.Shared.absorb.Goals as goal

pub join_seat-requires : goal.join_seat-requires
join_seat-requires c = let table = sym (ap (λ w. w.made.table) c.self.view_is) in (
  c.requires.tables.0 ∙ table,
  c.requires.tables.1 ∙ table,
  ap (λ m. m.1) c.requires.note,
  omega (arith, c.self.invariant.0),
  joins-keep c.self.inside.table.shared.key c.args.seat.now.id c.args.seat.now.me.0 c.args.note.id c.args.note.me.0,
)

pub load-requires : goal.load-requires
load-requires c =
    let t = c.join_seat.ensures in let own = first_part c.args.seat.now.me.0 in let told = first_part c.args.note.me.0 in let room =
    c.args.self.now.made.slots in
    let both : c.join_seat.new.seat.me ≡ (view (part room Note told.seen ∷ part room own.role own.seen ∷ []), []) =
    t.2 ∙ λ k. (joined (c.requires.own k).0 (c.requires.note k).0, (c.requires.own k).1) in (
      t.0 ∙ (c.requires.tables.0 ∙ sym (ap (λ w. w.made.table) c.self.view_is)),
      omega (arith, c.self.invariant.0),
      may-settle c.self.inside.table.shared.key room
          (sym (ap (λ w. w.made.slots) c.self.view_is) ∙ sym (ap (λ l. l.slots) c.self.invariant.2))
          c.self.inside.table.shared.table_id.slots c.join_seat.new.seat.id c.join_seat.new.seat.me own.role told.seen own.seen both
          c.requires.waits,
    )
