-- Fill steps that may be done one after the other: each fills an empty cell at least, so they are no more than the
-- empty cells, of which a board has at most 121; and their cells are on the board.
use Rattle.std.proofs.Common.{◌≡◌, ◌≤◌, List, [], ◌∷◌, length, map, ◌∙◌, arith}
use Rattle.hx_board.specs.declared.colours.Colour.{Colour}
use Rattle.hx_board.specs.Cells.{Extent}
use Rattle.hx_board.specs.Positions.{Board, IsBoard}
use Rattle.hx_board.specs.Counts.{empty_count}
use Rattle.hx_board.proofs.EmptyCells.{empty_count-small}
use Rattle.hx_inferior.specs.declared.fills.FillStep.{FillStep}
use Rattle.hx_inferior.specs.declared.fills.FillStep.TheVariants.{Other, Dead, Pair}
use Rattle.hx_inferior.specs.Inferior.{MayFill, filled}
use Rattle.hx_inferior.proofs.PairLaws.{pair-a_empty, pair-b_empty}
use Rattle.hx_tree.specs.Fills.{MayFillAll}
use Rattle.hx_tree.proofs.FilledBoards.{size-filled, board-filled, empty_count-filled}
use Rattle.hx_board.specs.declared.cells.TheConstants.{CELLS}
use Rattle.hx_text.specs.FillTexts.{FillFits}
use Rattle.hx_text.specs.Entries.{EachEntryFits}
use Rattle.hx_text.proofs.EntryLists.{fill_entry}

-- ---- one step

fill_fits : (board : Board) (winner : Colour) (step : FillStep) → MayFill board winner step → FillFits board.size step
fill_fits board winner (Other cell) empty = empty.on_board
fill_fits board winner (Dead cell) dead = dead.empty.on_board
fill_fits board winner (Pair a b) pair =
    ((pair-a_empty board winner a b pair).on_board, (pair-b_empty board winner a b pair).on_board)

-- ---- all steps

no_more_than_empty : (board : Board) (winner : Colour) (steps : List FillStep) → IsBoard board → MayFillAll board winner steps
    → length steps ≤ empty_count board
no_more_than_empty board winner [] is may = omega arith
no_more_than_empty board winner (step ∷ steps) is may =
    let fewer = empty_count-filled board winner is step may.0 in
    let rest = no_more_than_empty (filled board winner step) winner steps (board-filled board winner is step may.0) may.1 in
    omega (arith, fewer, rest)

pub few_fill_steps : (board : Board) (winner : Colour) (steps : List FillStep) → IsBoard board → MayFillAll board winner steps
    → length steps ≤ CELLS
few_fill_steps board winner steps is may = omega (arith, no_more_than_empty board winner steps is may, empty_count-small board)

pub fill_steps_fit : (size : Extent) (board : Board) (winner : Colour) (steps : List FillStep) → board.size ≡ size
    → MayFillAll board winner steps
    → EachEntryFits size (map fill_entry steps)
fill_steps_fit size board winner [] same may = tt
fill_steps_fit size board winner (step ∷ steps) same may = (
  rw same at (fill_fits board winner step may.0),
  fill_steps_fit size (filled board winner step) winner steps (size-filled board winner step ∙ same) may.1,
)
