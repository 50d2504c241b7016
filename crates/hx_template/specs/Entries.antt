-- What a table keeps of fillings.
use Rattle.std.specs.Prelude.{◌≡◌, ◌^◌, ◌≤◌, ◌↔◌, Bool, true, false, IsTrue, List, length, slice_index_or}
use Rattle.std.specs.Prelude.{Option, None, Some}
use Rattle.hx_board.specs.declared.colours.Colour.{Colour}
use Rattle.hx_board.specs.Graph.{IsVertex}
use Rattle.hx_board.specs.Positions.{Board}
use Rattle.hx_board.specs.Sets.{count_below}
use Rattle.hx_proof.specs.Local.{Secures}
use Rattle.hx_template.specs.declared.games.LocalGame.{LocalGame}
use Rattle.hx_template.specs.declared.searches.Entry.{Entry}
use Rattle.hx_template.specs.Fillings.{IsFilling, number_of}

-- the player of the game secures its vertices on a board with this player to move
abbrev pub SecuredIn : LocalGame → Board → Colour → Type 0
SecuredIn game board mover = Secures game.player game.carrier game.a game.b board mover

-- the vertices of the game are on its board
pub record HasVertices (game : LocalGame) : Type 0 where
  pub a : IsVertex game.start.size game.a
  pub b : IsVertex game.start.size game.b

-- a statement is so, or is not
abbrev pub IsSo : Bool → Type 0 → Type 0
IsSo true Statement = Statement
IsSo false Statement = Statement → ⊥

-- there is a place for each filling, and an entry at the number of a filling is right of it
pub record AreRight (game : LocalGame) (table : List (Option Entry)) : Type 0 where
  pub room : 3 ^ count_below 121 game.carrier ≤ length table
  pub right : (entry : Entry) (board : Board) → IsFilling game.start game.carrier board
      → slice_index_or table (number_of game.player game.carrier board) None ≡ Some entry
      → IsTrue entry.secures ↔ SecuredIn game board entry.to_move
