-- The inputs of `solve`: texts of positions.
use Rattle.std.specs.Prelude.{◌≡◌, ℕ, List}
use Rattle.hx_board.specs.declared.colours.Colour.{Colour}
use Rattle.hx_board.specs.Positions.{Board, IsBoard}
use Rattle.hx_text.specs.PositionTexts.{position_text}

-- the input is the text of this position and mover
pub record IsPositionText (input : List ℕ) (board : Board) (mover : Colour) : Type 0 where
  pub is_board : IsBoard board
  pub same : input ≡ position_text board mover

-- the input is the text of a position of which this holds
pub record IsTextWhere (Holds : Board → Type 0) (input : List ℕ) : Type 0 where
  pub board : Board
  pub mover : Colour
  pub text : IsPositionText input board mover
  pub holds : Holds board

-- the input is the text of no position
abbrev pub IsNoPosition : List ℕ → Type 0
IsNoPosition input = (board : Board) (mover : Colour) → IsPositionText input board mover → ⊥
