use Rattle.std.proofs.Common.{◌≡◌}
use Rattle.hx_ordering.proofs.orders.list.Given as goal

abbrev pub invariant-loop-cell : goal.invariant-loop-cell
invariant-loop-cell l = l.found.items ≡ l.yielded
