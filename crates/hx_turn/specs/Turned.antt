-- Boards turned by 180 degrees.
use Rattle.std.specs.Prelude.{◌≡◌, ℕ, ◌-◌, true, ◌↔◌}
use Rattle.hx_board.specs.declared.colours.Colour.{Colour}
use Rattle.hx_board.specs.declared.vertices.Vertex.{Vertex}
use Rattle.hx_board.specs.declared.vertices.Vertex.TheVariants.{Of, First, Last}
use Rattle.hx_board.specs.Sets.{has}
use Rattle.hx_board.specs.Cells.{Extent, OnBoard, row_of, col_of, index_of}
use Rattle.hx_board.specs.Positions.{Board, stones_of}
use Rattle.hx_board.specs.Graph.{IsVertex, Joined}
use Rattle.hx_board.specs.Game.{Wins}

-- the cell to which a cell comes: as far from the last row and column as that one is from the first
abbrev pub turned_cell : Extent → ℕ → ℕ
turned_cell size cell = index_of (size.rows - 1 - row_of cell) (size.cols - 1 - col_of cell)

-- each cell of the one board holds what the turned cell of the other holds
pub record IsTurned (board turned : Board) : Type 0 where
  pub same_size : turned.size ≡ board.size
  pub stones : (player : Colour) (cell : ℕ)
      → (has (stones_of turned player) cell ≡ true)
      ↔ (OnBoard board.size cell × (has (stones_of board player) (turned_cell board.size cell) ≡ true))

-- a cell goes to its turned cell, and each side of a player to the other side
abbrev pub turned_vertex : Extent → Vertex → Vertex
turned_vertex size (Of cell) = Of (turned_cell size cell)
turned_vertex size First = Last
turned_vertex size Last = First

-- vertices are joined exactly where the turned ones are on the turned board
abbrev pub KeepsJoined : Board → Colour → Board → Type 0
KeepsJoined board player turned =
    (from to : Vertex) → IsVertex board.size from → IsVertex board.size to
    → Joined board player from to ↔ Joined turned player (turned_vertex board.size from) (turned_vertex board.size to)

-- the player wins the position exactly where the player wins the turned one
abbrev pub KeepsWinner : Board → Colour → Colour → Board → Type 0
KeepsWinner board mover player turned = Wins player board mover ↔ Wins player turned mover
