-- Sets of vertices, each kept as a set of numbers. A cell has its index as its number, and the two sides come after the
-- cells.
use Rattle.std.specs.Prelude.{◌≡◌, ℕ, ◌+◌, ◌<◌, true, ◌↔◌}
use Rattle.hx_board.specs.declared.cells.TheConstants.{CELLS}
use Rattle.hx_board.specs.declared.colours.Colour.{Colour}
use Rattle.hx_board.specs.declared.vertices.Vertex.{Vertex}
use Rattle.hx_board.specs.declared.vertices.Vertex.TheVariants.{Of, First, Last}
use Rattle.hx_board.specs.declared.vertices.TheConstants.{VERTICES}
use Rattle.hx_board.specs.Sets.{has}
use Rattle.hx_board.specs.Cells.{Extent}
use Rattle.hx_board.specs.Positions.{Board}
use Rattle.hx_board.specs.Graph.{IsVertex, Joined}

-- the number of a vertex in a set of vertices
abbrev pub code_of : Vertex → ℕ
code_of (Of cell) = cell
code_of First = CELLS
code_of Last = CELLS + 1

-- a vertex of the graph of some board
abbrev pub IsSomeVertex : Vertex → Type 0
IsSomeVertex (Of cell) = cell < CELLS
IsSomeVertex First = Unit {0}
IsSomeVertex Last = Unit {0}

-- a set of which each member is the number of a vertex
abbrev pub AreVertexCodes : ℕ → Type 0
AreVertexCodes set = (n : ℕ) → has set n ≡ true → n < VERTICES

-- the vertex of the board that has this number
pub record IsVertexAt (size : Extent) (code : ℕ) (vertex : Vertex) : Type 0 where
  pub is_vertex : IsVertex size vertex
  pub is_code : code_of vertex ≡ code

-- a number that stands for a vertex of the board
pub record IsVertexCode (size : Extent) (n : ℕ) : Type 0 where
  pub vertex : Vertex
  pub is_vertex : IsVertex size vertex
  pub is_code : code_of vertex ≡ n

-- the set of the vertices of a board for which a fact holds
pub record IsSetOf (size : Extent) (Fact : Vertex → Type 0) (set : ℕ) : Type 0 where
  pub vertices : (n : ℕ) → has set n ≡ true → IsVertexCode size n
  pub members : (vertex : Vertex) → IsVertex size vertex → (has set (code_of vertex) ≡ true) ↔ Fact vertex

-- any two vertices of the board in a set are joined
abbrev pub AreAllJoined : Board → Colour → ℕ → Type 0
AreAllJoined board player set = (one other : Vertex) → IsVertex board.size one → IsVertex board.size other
    → has set (code_of one) ≡ true → has set (code_of other) ≡ true → Joined board player one other
