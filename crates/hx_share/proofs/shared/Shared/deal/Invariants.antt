use Rattle.std.proofs.Common.{◌≡◌, ◌+◌, ◌≤◌, ◌-◌, [], replicate, vec_capacity}
use Rattle.hx_share.specs.declared.views.Role.TheVariants.{Waiting}
use Rattle.hx_share.specs.OneList.{part, view}
use Rattle.hx_share.specs.Readers.{reader}
use Rattle.hx_share.proofs.shared.Shared.deal.Given as goal

abbrev pub invariant-loop : goal.invariant-loop
invariant-loop l = record {
  table : l.first.table_id ≡ l.self.made.table;
  me : l.first.me ≡ (view (replicate (l.count + 1 - l.counter) (part l.self.made.slots Waiting [])), []);
  dealt : l.seats.items ≡ replicate (l.counter - 1) (reader l.self.made []);
  room : l.count ≤ vec_capacity l.seats;
}
