use Rattle.std.proofs.Common.{◌≡◌}
use Rattle.hx_tests_shares.proofs.shared_books.store_boards.Given as goal

abbrev pub invariant-loop-place : goal.invariant-loop-place
invariant-loop-place g l = l.seat.made ≡ l.shared.made
