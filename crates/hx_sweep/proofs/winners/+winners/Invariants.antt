-- A move leaves one empty cell less. The cells that are left to try are empty, and after a move to each other empty
-- cell the opponent wins.
use Rattle.std.proofs.Common.{◌≡◌, ℕ, ◌+◌, ◌*◌, true, false}
use Rattle.hx_board.specs.Sets.{has}
use Rattle.hx_board.specs.Counts.{empty_count}
use Rattle.hx_board.specs.Positions.{IsEmpty}
use Rattle.hx_sweep.specs.Tries.{IsRefuted}
use Rattle.hx_sweep.proofs.winners.+winners.Given as goal

abbrev pub decreases-winner : goal.decreases-winner
decreases-winner l = 2 * empty_count l.position.now + 1

abbrev pub decreases-winning_move : goal.decreases-winning_move
decreases-winning_move l = 2 * empty_count l.position.now

abbrev pub invariant-winning_move-loop-cell : goal.invariant-winning_move-loop-cell
invariant-winning_move-loop-cell l = record {
  kept : l.position ≡ l.fn.position;
  inside : (cell : ℕ) → has l.cell-iterator.cells cell ≡ true → IsEmpty l.fn.position cell;
  refuted : (cell : ℕ) → IsEmpty l.fn.position cell → has l.cell-iterator.cells cell ≡ false → IsRefuted l.fn.position l.to_move cell;
}
