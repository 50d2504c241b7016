-- The turned board as one value, put together cell by cell.
use Rattle.std.specs.Prelude.{ℕ, zero, suc, if◌then◌else◌}
use Rattle.hx_board.specs.declared.cells.TheConstants.{CELLS}
use Rattle.hx_board.specs.Sets.{has, insert}
use Rattle.hx_board.specs.Cells.{Extent}
use Rattle.hx_board.specs.Positions.{Board}
use Rattle.hx_turn.specs.Turned.{turned_cell}

-- the turned cells of those cells of a set that are below a bound
unfoldable pub turned_cells : Extent → ℕ → ℕ → ℕ
turned_cells size set zero = 0
turned_cells size set (suc cell) =
    if has set cell then insert (turned_cells size set cell) (turned_cell size cell)
    else turned_cells size set cell

-- the board on which each stone stands on its turned cell
abbrev pub turned_of : Board → Board
turned_of board = record {
  size = board.size;
  black = turned_cells board.size board.black CELLS;
  white = turned_cells board.size board.white CELLS;
}
