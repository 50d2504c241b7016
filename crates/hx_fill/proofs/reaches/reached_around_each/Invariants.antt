use Rattle.std.proofs.Common.{◌≡◌, ℕ, true, false}
use Rattle.hx_board.specs.Sets.{has}
use Rattle.hx_fill.specs.Views.{HoldsReached}
use Rattle.hx_fill.proofs.reaches.reached_around_each.Given as goal

abbrev pub invariant-loop-cell : goal.invariant-loop-cell
invariant-loop-cell l = (cell : ℕ) → has l.fn.cells cell ≡ true → has l.cell-iterator.cells cell ≡ false
    → HoldsReached l.view.board l.view.player cell l.found
