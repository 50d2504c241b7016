use Rattle.std.proofs.Common.{◌≡◌}
use Rattle.hx_tests_shares.proofs.counts.spend_many.Given as goal

abbrev pub invariant-loop : goal.invariant-loop
invariant-loop l = l.seat.made ≡ l.counts
