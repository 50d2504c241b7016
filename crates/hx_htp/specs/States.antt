-- What a session knows: the size of its board, and the moves that were made.
use Rattle.std.specs.Prelude.{◌≡◌, List, [], ◌∷◌, ◌++◌}
use Rattle.hx_board.specs.declared.colours.Colour.{Colour}
use Rattle.hx_board.specs.declared.colours.Colour.TheVariants.{Black}
use Rattle.hx_board.specs.Colours.{other_of}
use Rattle.hx_board.specs.Cells.{Extent}
use Rattle.hx_board.specs.Positions.{Board, IsEmpty, put}
use Rattle.hx_htp.specs.declared.moves.Move.{Move}

-- the size, and the moves from the first to the last
pub record State : Type 0 where
  pub size : Extent
  pub moves : List Move

-- no moves on a board of this size
abbrev pub no_moves : Extent → State
no_moves size = record { size = size; moves = [] }

-- the state of a new session
abbrev pub fresh : State
fresh = no_moves (record { rows = 11; cols = 11 })

-- one move more, the last
abbrev pub with_move : State → Move → State
with_move state move = record { size = state.size; moves = state.moves ++ move ∷ [] }

abbrev pub empty_board : Extent → Board
empty_board size = record { size = size; black = 0; white = 0 }

-- the board after some moves
abbrev pub board_after : Board → List Move → Board
board_after board [] = board
board_after board (move ∷ moves) = board_after (put board move.colour move.cell) moves

-- the board of a state: the empty one after its moves
abbrev pub board_of : State → Board
board_of state = board_after (empty_board state.size) state.moves

-- who is to move after some moves, where this player is to move before them
abbrev pub mover_after : Colour → List Move → Colour
mover_after mover [] = mover
mover_after mover (move ∷ moves) = mover_after (other_of move.colour) moves

-- the colour that did not make the last move, and Black where there is none
abbrev pub mover_of : State → Colour
mover_of state = mover_after Black state.moves

-- ---- words for the functions inside the crate alone

-- each move is to a cell that is empty before it
abbrev pub AreMoves : Board → List Move → Type 0
AreMoves board [] = Unit {0}
AreMoves board (move ∷ moves) = IsEmpty board move.cell × AreMoves (put board move.colour move.cell) moves

-- a board on which these moves were made
pub record IsPlayed (board : Board) (moves : List Move) : Type 0 where
  pub legal : AreMoves (empty_board board.size) moves
  pub same : board_after (empty_board board.size) moves ≡ board
