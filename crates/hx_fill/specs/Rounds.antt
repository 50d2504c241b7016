-- The rounds of fill-in. These words are for the functions inside the crate alone.
use Rattle.std.specs.Prelude.{◌≡◌, ℕ, ◌<◌, true, false, List, [], ◌∷◌, ◌++◌, length, ◌↔◌}
use Rattle.hx_board.specs.declared.colours.Colour.{Colour}
use Rattle.hx_board.specs.Sets.{has}
use Rattle.hx_board.specs.Positions.{Board, IsEmpty, stones_of}
use Rattle.hx_inferior.specs.declared.fills.FillStep.{FillStep}
use Rattle.hx_inferior.specs.Inferior.{IsDead, IsPair, MayFill, filled}
use Rattle.hx_fill.specs.declared.fills.Fill.{Fill}
use Rattle.hx_fill.specs.Fills.{IsDeadOrPair, AreDeadOrPairs, FillsTo}

-- the set has exactly the empty cells
abbrev pub AreAllEmpties : Board → ℕ → Type 0
AreAllEmpties board cells = (cell : ℕ) → (has cells cell ≡ true) ↔ IsEmpty board cell

-- a board with no stone less
pub record HasNoStoneLess (before after : Board) : Type 0 where
  pub same_size : after.size ≡ before.size
  pub stones : (player : Colour) (cell : ℕ) → has (stones_of before player) cell ≡ true
      → has (stones_of after player) cell ≡ true

-- one step more was done
pub record DoesStep (player : Colour) (step : FillStep) (board : Board) (fills : List Fill) (next : Board)
    (more : List Fill) : Type 0 where
  pub position : next ≡ filled board player step
  pub steps : more ≡ fills ++ record { colour = player; step = step } ∷ []

-- the cell is not dead, and no pair with a cell that is empty on a later board
pub record HasNoFill (start : Board) (player : Colour) (board : Board) (cell : ℕ) : Type 0 where
  pub not_dead : IsDead start player cell → ⊥
  pub no_pair : (other : ℕ) → IsEmpty board other → IsPair start player cell other → ⊥

-- what became of a board and its fills when a cell was looked at, with what was joined on an earlier board
pub data LooksAt (start : Board) (player : Colour) (cell : ℕ) (board : Board) (fills : List Fill) (next : Board)
    (more : List Fill) : Type 0 where
  Leaves : next ≡ board → more ≡ fills → HasNoFill start player board cell
      → LooksAt start player cell board fills next more
  Fills : (step : FillStep) → IsDeadOrPair step → MayFill board player step → DoesStep player step board fills next more
      → LooksAt start player cell board fills next more

-- what became of a board and its fills when all empty cells but those in a set were looked at
pub data IsRound (player : Colour) (left : ℕ) (board : Board) (fills : List Fill) (next : Board)
    (more : List Fill) : Type 0 where
  Still : next ≡ board → more ≡ fills
      → ((cell : ℕ) → IsEmpty board cell → has left cell ≡ false → HasNoFill board player board cell)
      → IsRound player left board fills next more
  Further : (added : List Fill) → 0 < length added → more ≡ fills ++ added → AreDeadOrPairs added
      → FillsTo board added next
      → IsRound player left board fills next more
