-- Sets of cells that are gone through.
use Rattle.std.specs.Prelude.{◌≡◌, ℕ, true, false, List, All, Contains, MatchOption}
use Rattle.std.specs.List.Sorted.{IsStrictlyIncreasing}
use Rattle.std.specs.declared.option.Option.{Option}
use Rattle.hx_board.specs.Sets.{has, remove}
use Rattle.hx_board.specs.Cells.{Extent, OnBoard, IsLeastOn}

-- what is left of a set of cells, on a board of this size
pub record CellsLeft : Type 0 where
  pub size : Extent
  pub cells : ℕ

-- a cell of the board that is in the set
pub record IsCellOf (size : Extent) (set cell : ℕ) : Type 0 where
  pub on_board : OnBoard size cell
  pub member : has set cell ≡ true

-- the cells of the board that are in the set, each once, in rising order
pub record AreCells (size : Extent) (set : ℕ) (cells : List ℕ) : Type 0 where
  pub rising : IsStrictlyIncreasing cells
  pub each : All (IsCellOf size set) cells
  pub all : (cell : ℕ) → IsCellOf size set cell → Contains cells cell

-- the first cell that was left comes, and all others are left still
pub record ComesFirst (before : CellsLeft) (cell : ℕ) (after : CellsLeft) : Type 0 where
  pub least : IsLeastOn before.size before.cells cell
  pub size : after.size ≡ before.size
  pub cells : after.cells ≡ remove before.cells cell

-- none was left
pub record NoneLeft (before after : CellsLeft) : Type 0 where
  pub none : (cell : ℕ) → OnBoard before.size cell → has before.cells cell ≡ false
  pub same : after ≡ before

-- the first cell that is left comes, and none exactly where none is left
abbrev pub GivesCell : CellsLeft → Option ℕ → CellsLeft → Type 0
GivesCell before given after = MatchOption given (NoneLeft before after) (λ cell. ComesFirst before cell after)
