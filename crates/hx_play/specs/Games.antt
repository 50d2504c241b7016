-- A game in which the winner of a tree plays by it.
use Rattle.std.specs.Prelude.{◌≡◌, ◌⊎◌, ℕ}
use Rattle.hx_board.specs.declared.colours.Colour.{Colour}
use Rattle.hx_board.specs.Colours.{other_of}
use Rattle.hx_board.specs.Positions.{Board, IsEmpty, put}
use Rattle.hx_board.specs.Graph.{HasChain}
use Rattle.hx_board.specs.Game.{Wins}
use Rattle.hx_tree.specs.declared.nodes.Heading.{Heading}

-- how a game stands: the board, whom the tree names, and whose turn it is
pub record Game : Type 0 where
  pub position : Board
  pub winner : Colour
  pub to_move : Colour

-- the game of a node's heading
abbrev pub game_of : Heading → Game
game_of heading = record { position = heading.position; winner = heading.winner; to_move = heading.to_move }

-- The winner moves to an empty cell of the board, and nothing else happens to the game. It wins after that with the
-- opponent to move.
pub record PlaysMove (winner : Colour) (before : Board) (after : Game) (cell : ℕ) : Type 0 where
  pub empty : IsEmpty before cell
  pub moved : after ≡ record { position = put before winner cell; winner = winner; to_move = other_of winner }
  pub wins : Wins winner (put before winner cell) (other_of winner)

-- it is the opponent's turn, or the winner has a chain
abbrev pub NeedsNoMove : Game → Type 0
NeedsNoMove game = (game.to_move ≡ other_of game.winner) ⊎ HasChain game.position game.winner
