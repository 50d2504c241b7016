use Rattle.std.proofs.Common.{sym, ap, ◌∙◌, arith}
use Rattle.hx_share.proofs.Keeps.{notes-keep}
use Rattle.hx_share.proofs.shared.Shared.tell.Goals as goal

pub split_seat-seat-requires : goal.split_seat-seat-requires
split_seat-seat-requires c = (
  ap (λ w. w.made.table) c.from.view_is ∙ (ap (λ o. o.table) c.requires ∙ sym (ap (λ w. w.made.table) c.self.view_is)),
  omega (arith, c.self.invariant.0),
  notes-keep c.self.inside.table.shared.key c.from.inside.seat.id c.from.inside.seat.me.0,
)
