use Rattle.std.proofs.Common.{◌≡◌}
use Rattle.hx_tests_books.proofs.counts.steps.Given as goal

abbrev pub invariant-loop : goal.invariant-loop
invariant-loop g l = (l.first.made ≡ l.counts) × (l.second.made ≡ l.counts)
