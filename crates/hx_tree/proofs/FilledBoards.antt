-- The board after a fill step that may be done: it is a board, of the same size, and has fewer empty cells.
use Rattle.std.proofs.Common.{◌≡◌, ◌<◌, List, [], ◌∷◌, refl, ◌∙◌, arith}
use Rattle.hx_board.specs.declared.colours.Colour.{Colour}
use Rattle.hx_board.specs.Colours.{other_of}
use Rattle.hx_board.specs.Positions.{Board, IsBoard, put}
use Rattle.hx_board.specs.Counts.{empty_count}
use Rattle.hx_board.proofs.StoneLaws.{size-put, board-put}
use Rattle.hx_board.proofs.EmptyCells.{empty_count-put}
use Rattle.hx_inferior.specs.declared.fills.FillStep.{FillStep}
use Rattle.hx_inferior.specs.declared.fills.FillStep.TheVariants.{Other, Dead, Pair}
use Rattle.hx_inferior.specs.Inferior.{MayFill, filled}
use Rattle.hx_inferior.proofs.PairLaws.{pair-a_empty}
use Rattle.hx_tree.specs.Fills.{filled_all}

pub size-filled : (board : Board) (player : Colour) (step : FillStep) → (filled board player step).size ≡ board.size
size-filled board player (Other cell) = size-put board (other_of player) cell
size-filled board player (Dead cell) = size-put board player cell
size-filled board player (Pair a b) = size-put (put board player a) player b ∙ size-put board player a

pub size-filled_all : (board : Board) (player : Colour) (steps : List FillStep) → (filled_all board player steps).size ≡ board.size
size-filled_all board player [] = refl
size-filled_all board player (step ∷ steps) = size-filled_all (filled board player step) player steps ∙ size-filled board player step

module _ (board : Board) (player : Colour) (is : IsBoard board) where
  pub board-filled : (step : FillStep) → MayFill board player step → IsBoard (filled board player step)
  board-filled (Other cell) empty = board-put board (other_of player) cell is empty
  board-filled (Dead cell) dead = board-put board player cell is dead.empty
  board-filled (Pair a b) pair =
      board-put (put board player a) player b (board-put board player a is (pair-a_empty board player a b pair)) pair.b_dead.empty

  pub empty_count-filled : (step : FillStep) → MayFill board player step → empty_count (filled board player step) < empty_count board
  empty_count-filled (Other cell) empty = omega (arith, empty_count-put board (other_of player) cell is empty)
  empty_count-filled (Dead cell) dead = omega (arith, empty_count-put board player cell is dead.empty)
  empty_count-filled (Pair a b) pair =
      omega (
        arith,
        empty_count-put board player a is (pair-a_empty board player a b pair),
        empty_count-put (put board player a) player b (board-put board player a is (pair-a_empty board player a b pair)) pair.b_dead.empty,
      )
