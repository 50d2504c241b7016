use Rattle.std.proofs.Common.{◌≡◌, ◌+◌, ◌≤◌, ◌-◌, [], vec_capacity}
use Rattle.hx_count.specs.Counted.{view, new_parts}
use Rattle.hx_count.specs.Seats.{new_seats}
use Rattle.hx_count.proofs.counts.Counts.deal.Given as goal

abbrev pub invariant-loop : goal.invariant-loop
invariant-loop l = record {
  table : l.first.table_id ≡ l.self.table;
  me : l.first.me ≡ (view (new_parts l.self.limits (l.counter - 1) (l.workers + 1 - l.counter)), []);
  dealt : l.seats.items ≡ new_seats l.self 0 (l.counter - 1);
  room : l.workers ≤ vec_capacity l.seats;
}
