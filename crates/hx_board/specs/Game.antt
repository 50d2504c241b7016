-- Who wins.
use Rattle.std.specs.Prelude.{◌≡◌, ℕ}
use Rattle.hx_board.specs.declared.colours.Colour.{Colour}
use Rattle.hx_board.specs.Colours.{other_of}
use Rattle.hx_board.specs.Positions.{Board, IsEmpty, put}
use Rattle.hx_board.specs.Graph.{HasChain}

-- the player wins the position with this mover
pub data Wins (player : Colour) : Board → Colour → Type 0 where
  By_chain : (board : Board) (mover : Colour) → HasChain board player → Wins player board mover
  By_move : (board : Board) (mover : Colour) (cell : ℕ) → mover ≡ player → IsEmpty board cell
      → Wins player (put board player cell) (other_of player) → Wins player board mover
  By_answers : (board : Board) (mover : Colour) (some : ℕ) → mover ≡ other_of player → IsEmpty board some
      → ((cell : ℕ) → IsEmpty board cell → Wins player (put board (other_of player) cell) player)
      → Wins player board mover
