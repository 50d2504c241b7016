-- The openings of a board: Black has moved once, and White is to move.
use Rattle.std.specs.Prelude.{ℕ, ◌-◌, ◌*◌, ◌≤◌, ◌↔◌}
use Rattle.hx_board.specs.declared.colours.Colour.{Colour}
use Rattle.hx_board.specs.declared.colours.Colour.TheVariants.{Black, White}
use Rattle.hx_board.specs.Cells.{Extent, OnBoard}
use Rattle.hx_board.specs.Positions.{Board, put}
use Rattle.hx_board.specs.Counts.{sweep_size}
use Rattle.hx_board.specs.Game.{Wins}
use Rattle.hx_turn.specs.Turned.{turned_cell}

-- the board without a stone
abbrev pub empty_board : Extent → Board
empty_board size = record { size = size; black = 0; white = 0 }

-- the board after Black's move to a cell
abbrev pub opening : Extent → ℕ → Board
opening size cell = put (empty_board size) Black cell

-- the player wins after this opening
abbrev pub WinsOpening : Extent → ℕ → Colour → Type 0
WinsOpening size cell player = Wins player (opening size cell) White

-- each player wins after the opening on the cell exactly where the player does after the one on the turned cell
abbrev pub HaveOneWinner : Extent → ℕ → Type 0
HaveOneWinner size cell =
    (player : Colour) → WinsOpening size cell player ↔ WinsOpening size (turned_cell size cell) player

-- Black wins the empty board with the move exactly where there is an opening after which Black wins
abbrev pub IsWonByAnOpening : Extent → Type 0
IsWonByAnOpening size =
    Wins Black (empty_board size) Black ↔ ((cell : ℕ) × OnBoard size cell × WinsOpening size cell Black)

-- how many cells are empty after an opening: all but the one that Black took
abbrev pub empties_left : Extent → ℕ
empties_left size = size.rows * size.cols - 1

-- The openings of a board are small under a budget: at most nine cells are empty after each, and a full search of a
-- position with so many has no more nodes than the budget has units.
pub record OpeningsAreSmall (size : Extent) (budget : ℕ) : Type 0 where
  pub few : empties_left size ≤ 9
  pub within : sweep_size (empties_left size) ≤ budget
