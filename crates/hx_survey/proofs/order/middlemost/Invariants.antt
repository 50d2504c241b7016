-- The middlemost cell of those before is one of all, and so are those that are left.
use Rattle.std.proofs.Common.{◌≡◌, ℕ, true}
use Rattle.hx_board.specs.Sets.{has}
use Rattle.hx_survey.specs.Orders.{IsAmong}
use Rattle.hx_survey.proofs.order.middlemost.Given as goal

abbrev pub invariant-loop-cell : goal.invariant-loop-cell
invariant-loop-cell l = record {
  middlemost : IsAmong l.size l.fn.cells l.middlemost;
  left : (cell : ℕ) → has l.cell-iterator.cells cell ≡ true → has l.fn.cells cell ≡ true;
}
