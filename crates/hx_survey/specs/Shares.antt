-- Which openings a worker begins with.
use Rattle.std.specs.Prelude.{◌≡◌, ◌↔◌, ℕ, ◌+◌, ◌*◌, true}
use Rattle.hx_board.specs.Sets.{has}
use Rattle.hx_board.specs.Cells.{Extent, OnBoard, row_of, col_of}

-- the place of a cell of the board among all in cell order, counted from 0
abbrev pub place_of : Extent → ℕ → ℕ
place_of size cell = row_of cell * size.cols + col_of cell

-- the place of the cell is w, w + n, w + 2n or so on, for worker w of n
pub record IsInShare (size : Extent) (workers worker cell : ℕ) : Type 0 where
  pub round : ℕ
  pub place : place_of size cell ≡ worker + round * workers

-- the share of the worker: of the cells of the board these, and no others
abbrev pub IsShare : Extent → ℕ → ℕ → ℕ → Type 0
IsShare size workers worker share =
    (cell : ℕ) → (has share cell ≡ true) ↔ (OnBoard size cell × IsInShare size workers worker cell)
