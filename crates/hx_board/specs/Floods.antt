-- What floods and the tables made of them keep. These words are for the functions inside the crate alone.
use Rattle.std.specs.Prelude.{◌≡◌, ℕ, ◌+◌, ◌<◌, true, List, length, slice_index, ◌⊎◌, ◌↔◌}
use Rattle.hx_board.specs.declared.colours.Colour.{Colour}
use Rattle.hx_board.specs.declared.vertices.Vertex.{Vertex}
use Rattle.hx_board.specs.declared.vertices.Vertex.TheVariants.{First, Last}
use Rattle.hx_board.specs.declared.vertices.TheConstants.{VERTICES}
use Rattle.hx_board.specs.Sets.{has, IsSubset}
use Rattle.hx_board.specs.Cells.{Extent, OnBoard, CellsTouch, col_of}
use Rattle.hx_board.specs.Positions.{Board, IsBoard}
use Rattle.hx_board.specs.Graph.{IsFirstLine, IsLastLine, IsVertex, Touches, IsOwn, Joined}
use Rattle.hx_board.specs.VertexSets.{code_of, IsVertexCode, IsSetOf}

-- a cell of the board that touches a cell of the board in a set
pub record TouchesCellOf (size : Extent) (set cell : ℕ) : Type 0 where
  pub on_board : OnBoard size cell
  pub by : ℕ
  pub by_on_board : OnBoard size by
  pub by_member : has set by ≡ true
  pub touch : CellsTouch by cell

-- a vertex that touches one in a set
pub record TouchesOneOf (size : Extent) (player : Colour) (set : ℕ) (vertex : Vertex) : Type 0 where
  pub by : Vertex
  pub by_vertex : IsVertex size by
  pub by_member : has set (code_of by) ≡ true
  pub touch : Touches size player by vertex

-- a vertex is the other one or touches it
abbrev pub IsOrTouches : Extent → Colour → Vertex → Vertex → Type 0
IsOrTouches size player vertex other = (vertex ≡ other) ⊎ Touches size player vertex other

-- the masks of a player's graph: all cells, the cells that have one to their right, the cells along the two sides, and
-- the player's own vertices
pub record AreMasks (board : Board) (player : Colour) (all left first last own : ℕ) : Type 0 where
  pub valid : IsBoard board
  pub is_all : (cell : ℕ) → (has all cell ≡ true) ↔ OnBoard board.size cell
  pub is_left : (cell : ℕ) → (has left cell ≡ true) ↔ (OnBoard board.size cell × (col_of cell + 1 < board.size.cols))
  pub is_first : (cell : ℕ) → (has first cell ≡ true) ↔ (OnBoard board.size cell × IsFirstLine player cell)
  pub is_last : (cell : ℕ) → (has last cell ≡ true) ↔ (OnBoard board.size cell × IsLastLine board.size player cell)
  pub is_own : IsSetOf board.size (IsOwn board player) own

-- for each cell of the board below a bound the set of itself and the cells that touch it, and for the sides nothing
pub record AreNear (size : Extent) (bound : ℕ) (sets : List ℕ) : Type 0 where
  pub count : length sets ≡ VERTICES
  pub cells : (cell : ℕ) → cell < bound → OnBoard size cell → (other : ℕ)
      → (has (slice_index sets cell) other ≡ true) ↔ (OnBoard size other × ((other ≡ cell) ⊎ CellsTouch cell other))
  pub first : slice_index sets (code_of First) ≡ 0
  pub last : slice_index sets (code_of Last) ≡ 0

-- for each vertex of the board the set of what it is joined with
pub record AreJoined (board : Board) (player : Colour) (sets : List ℕ) : Type 0 where
  pub valid : IsBoard board
  pub count : length sets ≡ VERTICES
  pub joined : (vertex : Vertex) → IsVertex board.size vertex
      → IsSetOf board.size (Joined board player vertex) (slice_index sets (code_of vertex))

-- a number that stands for an own vertex that touches one in a set
pub record IsAdded (board : Board) (player : Colour) (set n : ℕ) : Type 0 where
  pub vertex : Vertex
  pub is_vertex : IsVertex board.size vertex
  pub is_code : code_of vertex ≡ n
  pub own : IsOwn board player vertex
  pub touch : TouchesOneOf board.size player set vertex

-- a set with some own vertices that touch one in it
pub record IsGrown (board : Board) (player : Colour) (set grown : ℕ) : Type 0 where
  pub kept : IsSubset set grown
  pub added : (n : ℕ) → has grown n ≡ true → (has set n ≡ true) ⊎ IsAdded board player set n

-- vertices that one is joined with: all of a set, or all that there are
pub record IsReach (board : Board) (player : Colour) (start : Vertex) (wanted reach : ℕ) : Type 0 where
  pub vertices : (n : ℕ) → has reach n ≡ true → IsVertexCode board.size n
  pub sound : (vertex : Vertex) → IsVertex board.size vertex → has reach (code_of vertex) ≡ true
      → Joined board player start vertex
  pub whole : IsSubset wanted reach
      ⊎ ((vertex : Vertex) → IsVertex board.size vertex → Joined board player start vertex
      → has reach (code_of vertex) ≡ true)

-- a vertex is the other one, or touches it, or has it in its set
abbrev pub HasReached : Extent → Colour → List ℕ → Vertex → Vertex → Type 0
HasReached size player sets vertex other =
    (vertex ≡ other)
    ⊎ (Touches size player vertex other ⊎ (has (slice_index sets (code_of vertex)) (code_of other) ≡ true))

-- a set that tells of each vertex of the board whether the vertex has reached it
abbrev pub IsReached : Extent → Colour → List ℕ → Vertex → ℕ → Type 0
IsReached size player sets vertex reached =
    (other : Vertex) → IsVertex size other
    → (has reached (code_of other) ≡ true) ↔ HasReached size player sets vertex other

-- of any two vertices of the board in a set the one has reached the other
abbrev pub AreReached : Extent → Colour → ℕ → List ℕ → Type 0
AreReached size player set sets = (one other : Vertex) → IsVertex size one → IsVertex size other
    → has set (code_of one) ≡ true → has set (code_of other) ≡ true → HasReached size player sets one other
