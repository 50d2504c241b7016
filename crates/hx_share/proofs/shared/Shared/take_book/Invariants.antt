use Rattle.std.proofs.Common.{◌≡◌}
use Rattle.hx_share.proofs.shared.Shared.take_book.Given as goal

abbrev pub invariant-loop : goal.invariant-loop
invariant-loop g l = record {
  next : (goal.iterator-loop g).can_next l.iterator';
  finite : (goal.iterator-loop g).is_finite l.iterator';
  table : l.seat.table_id ≡ l.fn.seat.table_id;
  me : l.seat.me ≡ l.fn.seat.me;
}
