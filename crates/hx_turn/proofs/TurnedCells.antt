-- Turned cells: they are on the board, turned twice they are where they were, they touch what they touched, and the
-- lines along a player's two sides are exchanged.
use Rattle.std.proofs.Common.{◌≡◌, ℕ, ◌+◌, ◌-◌, ◌*◌, ◌/◌, ◌%◌, ◌<◌, ◌≤◌, arith}
use Rattle.hx_board.specs.declared.colours.Colour.{Colour}
use Rattle.hx_board.specs.declared.colours.Colour.TheVariants.{Black, White}
use Rattle.hx_board.specs.Cells.{Extent, IsExtent, OnBoard, CellsTouch, Left, Right, Above, Below, Above_right, Below_left, row_of, col_of}
use Rattle.hx_board.specs.Graph.{IsFirstLine, IsLastLine}
use Rattle.hx_turn.specs.Turned.{turned_cell}

-- a cell's row and column from its index
row-index : (row col : ℕ) → col < 11 → (11 * row + col) / 11 ≡ row
row-index row col less = omega arith

col-index : (row col : ℕ) → col < 11 → (11 * row + col) % 11 ≡ col
col-index row col less = omega arith

module _ (size : Extent) (extent : IsExtent size.rows size.cols) where
  pub row-turned : (cell : ℕ) → OnBoard size cell → row_of (turned_cell size cell) + row_of cell + 1 ≡ size.rows
  row-turned cell here =
      let row : cell / 11 < size.rows = here.row in
      let col : cell % 11 < size.cols = here.col in
      let few : size.cols ≤ 11 = extent.3 in
      let e = row-index (size.rows - 1 - cell / 11) (size.cols - 1 - cell % 11) (omega arith) in
      omega arith

  pub col-turned : (cell : ℕ) → OnBoard size cell → col_of (turned_cell size cell) + col_of cell + 1 ≡ size.cols
  col-turned cell here =
      let row : cell / 11 < size.rows = here.row in
      let col : cell % 11 < size.cols = here.col in
      let few : size.cols ≤ 11 = extent.3 in
      let e = col-index (size.rows - 1 - cell / 11) (size.cols - 1 - cell % 11) (omega arith) in
      omega arith

  pub on_board-turned : (cell : ℕ) → OnBoard size cell → OnBoard size (turned_cell size cell)
  on_board-turned cell here =
      let row = row-turned cell here in
      let col = col-turned cell here in
      record { row = omega arith; col = omega arith }

  pub turned-turned : (cell : ℕ) → OnBoard size cell → turned_cell size (turned_cell size cell) ≡ cell
  turned-turned cell here =
      let row = row-turned cell here in
      let col = col-turned cell here in
      omega arith

  -- the turned cell's index is that of the last cell less the cell's own
  pub turned-is : (cell : ℕ) → OnBoard size cell → turned_cell size cell + cell ≡ 11 * (size.rows - 1) + (size.cols - 1)
  turned-is cell here =
      let row : cell / 11 < size.rows = here.row in
      let col : cell % 11 < size.cols = here.col in
      omega arith

  pub touch-turned : (cell other : ℕ) → OnBoard size cell → OnBoard size other → CellsTouch cell other
      → CellsTouch (turned_cell size cell) (turned_cell size other)
  touch-turned cell other here there touch =
      let row = row-turned cell here in
      let col = col-turned cell here in
      let other_row = row-turned other there in
      let other_col = col-turned other there in
      elim touch [
        | Left same_row by_one ↦ Right (omega arith) (omega arith)
        | Right same_row by_one ↦ Left (omega arith) (omega arith)
        | Above by_one same_col ↦ Below (omega arith) (omega arith)
        | Below by_one same_col ↦ Above (omega arith) (omega arith)
        | Above_right above right ↦ Below_left (omega arith) (omega arith)
        | Below_left below left ↦ Above_right (omega arith) (omega arith)
      ]

  pub last_line-turned : (player : Colour) (cell : ℕ) → OnBoard size cell → IsFirstLine player cell
      → IsLastLine size player (turned_cell size cell)
  last_line-turned Black cell here first = let row = row-turned cell here in omega arith
  last_line-turned White cell here first = let col = col-turned cell here in omega arith

  pub first_line-turned : (player : Colour) (cell : ℕ) → OnBoard size cell → IsLastLine size player cell
      → IsFirstLine player (turned_cell size cell)
  first_line-turned Black cell here last = let row = row-turned cell here in omega arith
  first_line-turned White cell here last = let col = col-turned cell here in omega arith
