-- What a survey of the openings of a board tells, and what a list of proofs needs for it.
use Rattle.std.specs.Prelude.{◌≡◌, ◌⊎◌, ℕ, true, List, if◌then◌else◌}
use Rattle.hx_board.specs.declared.colours.Colour.{Colour}
use Rattle.hx_board.specs.declared.colours.Colour.TheVariants.{Black, White}
use Rattle.hx_board.specs.Sets.{has}
use Rattle.hx_board.specs.Cells.{Extent, OnBoard}
use Rattle.hx_board.specs.Positions.{Board}
use Rattle.hx_tree.specs.declared.nodes.Node.{Node}
use Rattle.hx_tree.specs.Entries.{IsFirstFound}
use Rattle.hx_tree.specs.declared.entries.Found.{Found}
use Rattle.hx_turn.specs.Turned.{IsTurned}
use Rattle.hx_openings.specs.Openings.{opening, WinsOpening}

-- what a table tells: the size of the board, and the cells of the openings that Black wins
pub record Winners : Type 0 where
  pub size : Extent
  pub cells_of_black : ℕ

-- whom a set of cells names as the winner after the opening on a cell, where it is the set of those that Black wins
abbrev pub winner_at : ℕ → ℕ → Colour
winner_at black cell = if has black cell then Black else White

-- the table of all openings: the set has cells of the board alone, and after each opening the player wins whom it names
pub record IsSurvey (size : Extent) (black : ℕ) : Type 0 where
  pub inside : (cell : ℕ) → has black cell ≡ true → OnBoard size cell
  pub winners : (cell : ℕ) → OnBoard size cell → WinsOpening size cell (winner_at black cell)

-- ---- words for the functions inside the crate alone

-- the list has an entry of the opening on this cell, or of the turned one
pub record HasOpening (nodes : List Node) (size : Extent) (cell : ℕ) : Type 0 where
  pub board : Board
  pub which : (board ≡ opening size cell) ⊎ IsTurned (opening size cell) board
  pub found : Found
  pub first : IsFirstFound nodes board White found

-- it has one for each opening
abbrev pub HasOpenings : List Node → Extent → Type 0
HasOpenings nodes size = (cell : ℕ) → OnBoard size cell → HasOpening nodes size cell

-- it has one for each of these cells
abbrev pub HasOpeningsOf : List Node → Extent → ℕ → Type 0
HasOpeningsOf nodes size cells = (cell : ℕ) → has cells cell ≡ true → HasOpening nodes size cell
