-- Play in a region of the board, in which one player pursues a goal and the opponent stands in the way. The player wins
-- the game where the region is the whole board and the goal is a chain.
use Rattle.std.specs.Prelude.{◌≡◌, ℕ, Bool, true}
use Rattle.hx_board.specs.declared.colours.Colour.{Colour}
use Rattle.hx_board.specs.Colours.{other_of}
use Rattle.hx_board.specs.Positions.{Board, IsEmpty, put}

-- an empty cell of the region
pub record IsFree (region : ℕ → Bool) (board : Board) (cell : ℕ) : Type 0 where
  pub inside : region cell ≡ true
  pub empty : IsEmpty board cell

-- the player reaches the goal by moves in the region, whatever the opponent plays there
pub data Plays (player : Colour) (region : ℕ → Bool) (Goal : Board → Type 0) : Board → Colour → Type 0 where
  By_goal : (board : Board) (mover : Colour) → Goal board → Plays player region Goal board mover
  By_move : (board : Board) (mover : Colour) (cell : ℕ) → mover ≡ player → IsFree region board cell
      → Plays player region Goal (put board player cell) (other_of player) → Plays player region Goal board mover
  By_answers : (board : Board) (mover : Colour) (some : ℕ) → mover ≡ other_of player → IsFree region board some
      → ((cell : ℕ) → IsFree region board cell → Plays player region Goal (put board (other_of player) cell) player)
      → Plays player region Goal board mover
