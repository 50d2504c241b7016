-- The empty cells of a board, in a list.
use Rattle.std.specs.Prelude.{ℕ, ◌↔◌, List, Contains}
use Rattle.std.specs.List.Sorted.{IsStrictlyIncreasing, IsPermutation}
use Rattle.hx_board.specs.Positions.{Board, IsEmpty}

-- the empty cells of a board in some order: these, each once
pub record AreEmptyCells (board : Board) (cells : List ℕ) : Type 0 where
  pub each : (cell : ℕ) → Contains cells cell ↔ IsEmpty board cell
  pub in_cell_order : List ℕ
  pub rising : IsStrictlyIncreasing in_cell_order
  pub reordered : IsPermutation in_cell_order cells
