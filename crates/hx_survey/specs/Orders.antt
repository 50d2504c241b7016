-- Which cell comes next.
use Rattle.std.specs.Prelude.{◌≡◌, ℕ, true}
use Rattle.hx_board.specs.Sets.{has}
use Rattle.hx_board.specs.Cells.{Extent, OnBoard}

-- a cell of the board that is one of these
pub record IsAmong (size : Extent) (cells cell : ℕ) : Type 0 where
  pub on_board : OnBoard size cell
  pub member : has cells cell ≡ true
