-- Boards and their cells. A cell stands by its index, eleven times its row and its column.
use Rattle.std.specs.Prelude.{◌≡◌, ℕ, ◌+◌, ◌-◌, ◌*◌, ◌/◌, ◌%◌, ◌<◌, ◌≤◌, Bool, true, false, ◌&&◌, nat_lt}
use Rattle.std.specs.Prelude.{List, [], ◌∷◌, ◌++◌}
use Rattle.hx_board.specs.Sets.{has}

-- the size of a board
pub record Extent : Type 0 where
  pub rows : ℕ
  pub cols : ℕ

-- from one to eleven rows and columns
abbrev pub IsExtent : ℕ → ℕ → Type 0
IsExtent rows cols = (1 ≤ rows) × (rows ≤ 11) × (1 ≤ cols) × (cols ≤ 11)

-- the row and the column of a cell, which both count from 0 at the top left
abbrev pub row_of : ℕ → ℕ
row_of cell = cell / 11

abbrev pub col_of : ℕ → ℕ
col_of cell = cell % 11

-- a cell of a board of this size
pub record OnBoard (size : Extent) (cell : ℕ) : Type 0 where
  pub row : row_of cell < size.rows
  pub col : col_of cell < size.cols

-- the cell in a row and a column
abbrev pub index_of : ℕ → ℕ → ℕ
index_of row col = 11 * row + col

-- the six ways in which two cells touch: the other is left of the cell, right of it, and so on
pub data CellsTouch (cell other : ℕ) : Type 0 where
  Left : row_of other ≡ row_of cell → col_of other + 1 ≡ col_of cell → CellsTouch cell other
  Right : row_of other ≡ row_of cell → col_of other ≡ col_of cell + 1 → CellsTouch cell other
  Above : row_of other + 1 ≡ row_of cell → col_of other ≡ col_of cell → CellsTouch cell other
  Below : row_of other ≡ row_of cell + 1 → col_of other ≡ col_of cell → CellsTouch cell other
  Above_right : row_of other + 1 ≡ row_of cell → col_of other ≡ col_of cell + 1 → CellsTouch cell other
  Below_left : row_of other ≡ row_of cell + 1 → col_of other + 1 ≡ col_of cell → CellsTouch cell other

-- the cell where it is there, and else no cell
abbrev pub kept : Bool → ℕ → List ℕ
kept true cell = cell ∷ []
kept false cell = []

-- the cells of a board that touch a cell, in this order: left, right, above, below, above right, below left
abbrev pub neighbours_of : Extent → ℕ → List ℕ
neighbours_of size cell =
    let row : ℕ = row_of cell in
    let col : ℕ = col_of cell in
    kept (nat_lt 0 col) (index_of row (col - 1))
    ++ kept (nat_lt (col + 1) size.cols) (index_of row (col + 1))
    ++ kept (nat_lt 0 row) (index_of (row - 1) col)
    ++ kept (nat_lt (row + 1) size.rows) (index_of (row + 1) col)
    ++ kept (nat_lt 0 row && nat_lt (col + 1) size.cols) (index_of (row - 1) (col + 1))
    ++ kept (nat_lt (row + 1) size.rows && nat_lt 0 col) (index_of (row + 1) (col - 1))

-- the first cell of a board that is in a set
pub record IsLeastOn (size : Extent) (set cell : ℕ) : Type 0 where
  pub on_board : OnBoard size cell
  pub member : has set cell ≡ true
  pub first : (other : ℕ) → other < cell → OnBoard size other → has set other ≡ false
