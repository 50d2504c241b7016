-- What a move of the mover leads to.
use Rattle.std.specs.Prelude.{ℕ, ◌<◌}
use Rattle.hx_board.specs.declared.colours.Colour.{Colour}
use Rattle.hx_board.specs.Colours.{other_of}
use Rattle.hx_board.specs.Positions.{Board, IsEmpty, put}
use Rattle.hx_board.specs.Game.{Wins}

-- after the mover's stone on the cell the opponent wins
abbrev pub IsRefuted : Board → Colour → ℕ → Type 0
IsRefuted board mover cell = Wins (other_of mover) (put board mover cell) (other_of mover)

-- the first empty cell with the mover's stone on which he wins
pub record IsFirstWinningMove (board : Board) (mover : Colour) (cell : ℕ) : Type 0 where
  pub empty : IsEmpty board cell
  pub wins : Wins mover (put board mover cell) (other_of mover)
  pub first : (earlier : ℕ) → earlier < cell → IsEmpty board earlier → IsRefuted board mover earlier
