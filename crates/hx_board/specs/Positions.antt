-- Positions: a board and the cells that hold stones.
use Rattle.std.specs.Prelude.{◌≡◌, ℕ, true, false, if◌then◌else◌, ◌⊎◌}
use Rattle.std.specs.declared.option.Option.{Option}
use Rattle.std.specs.declared.option.Option.TheVariants.{None, Some}
use Rattle.hx_board.specs.declared.colours.Colour.{Colour}
use Rattle.hx_board.specs.declared.colours.Colour.TheVariants.{Black, White}
use Rattle.hx_board.specs.Sets.{has, insert, remove, ShareNone}
use Rattle.hx_board.specs.Cells.{Extent, IsExtent, OnBoard}

-- a board of some size with the sets of cells that hold a black and a white stone
pub record Board : Type 0 where
  pub size : Extent
  pub black : ℕ
  pub white : ℕ

-- two sets of cells of the board that share none
pub record IsPosition (size : Extent) (black white : ℕ) : Type 0 where
  pub apart : ShareNone black white
  pub black_inside : (cell : ℕ) → has black cell ≡ true → OnBoard size cell
  pub white_inside : (cell : ℕ) → has white cell ≡ true → OnBoard size cell

-- a position on a board of one to eleven rows and columns
abbrev pub IsBoard : Board → Type 0
IsBoard board = IsExtent board.size.rows board.size.cols × IsPosition board.size board.black board.white

-- the cells that hold a player's stones
abbrev pub stones_of : Board → Colour → ℕ
stones_of board Black = board.black
stones_of board White = board.white

-- a cell of the board without a stone
pub record IsEmpty (board : Board) (cell : ℕ) : Type 0 where
  pub on_board : OnBoard board.size cell
  pub no_black : has board.black cell ≡ false
  pub no_white : has board.white cell ≡ false

-- no cell is empty
abbrev pub IsFull : Board → Type 0
IsFull board = (cell : ℕ) → ¬ IsEmpty board cell

-- the colour of the stone on a cell
abbrev pub stone_at : Board → ℕ → Option Colour
stone_at board cell = if has board.black cell then Some Black else (if has board.white cell then Some White else None)

-- the board with one stone more, and nothing else changed
abbrev pub put : Board → Colour → ℕ → Board
put board Black cell = record board { black = insert board.black cell }
put board White cell = record board { white = insert board.white cell }

-- a cell that holds a stone
abbrev pub IsHeld : Board → ℕ → Type 0
IsHeld board cell = (has board.black cell ≡ true) ⊎ (has board.white cell ≡ true)

-- the board without the stone on a cell, and nothing else changed
abbrev pub lifted : Board → ℕ → Board
lifted board cell = record board { black = remove board.black cell; white = remove board.white cell }
