-- How many cells of a board are empty, and how large a full search of it can become.
use Rattle.std.specs.Prelude.{ℕ, zero, suc, ◌+◌, ◌*◌, ◌≤◌, Bool, if◌then◌else◌, ◌&&◌, not, nat_lt}
use Rattle.hx_board.specs.Sets.{has}
use Rattle.hx_board.specs.Cells.{row_of, col_of}
use Rattle.hx_board.specs.Positions.{Board}

-- whether a cell is on the board and has no stone
unfoldable pub is_empty : Board → ℕ → Bool
is_empty board cell =
    nat_lt (row_of cell) board.size.rows && nat_lt (col_of cell) board.size.cols
    && not (has board.black cell) && not (has board.white cell)

-- how many of the cells below a bound are empty
unfoldable pub empty_below : ℕ → Board → ℕ
empty_below zero board = 0
empty_below (suc bound) board = (if is_empty board bound then 1 else 0) + empty_below bound board

-- how many cells of the board are empty; each cell of a board is below 121, the number that `CELLS` computes to, with
-- which proofs go on
unfoldable pub empty_count : Board → ℕ
empty_count board = empty_below 121 board

-- the most nodes of a tree by a full search of a position with so many empty cells: one for the position, and after
-- each move those of a position with one empty cell less
unfoldable pub sweep_size : ℕ → ℕ
sweep_size zero = 1
sweep_size (suc empty) = 1 + suc empty * sweep_size empty

-- a board for which a full search with so many nodes at the most is enough
pub record IsSmall (board : Board) (budget : ℕ) : Type 0 where
  pub few : empty_count board ≤ 9
  pub within : sweep_size (empty_count board) ≤ budget
