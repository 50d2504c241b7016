-- What is joined on a board, told by what was joined before its last stone. These words are for the functions inside
-- the crate alone.
use Rattle.std.specs.Prelude.{◌≡◌, ℕ, Bool, true, false}
use Rattle.std.specs.declared.option.Option.{Option}
use Rattle.std.specs.declared.option.Option.TheVariants.{None, Some}
use Rattle.hx_board.specs.declared.colours.Colour.{Colour}
use Rattle.hx_board.specs.declared.vertices.Vertex.{Vertex}
use Rattle.hx_board.specs.declared.vertices.Vertex.TheVariants.{Of}
use Rattle.hx_board.specs.Sets.{has, union}
use Rattle.hx_board.specs.Positions.{Board}
use Rattle.hx_board.specs.Cells.{OnBoard}
use Rattle.hx_board.specs.Graph.{Grouped, Joined}
use Rattle.hx_board.specs.VertexSets.{IsSetOf}
use Rattle.hx_inferior.specs.Inferior.{IsOpenNeighbour}

-- a set of vertices, with the joint ones where it has the stone's cell
abbrev pub widened_if : Bool → ℕ → ℕ → ℕ
widened_if true joint set = union set joint
widened_if false joint set = set

-- a vertex that was joined with the stone's cell is now joined with all that the cell was joined with
abbrev pub widened : Option ℕ → ℕ → ℕ → ℕ
widened None joint set = set
widened (Some cell) joint set = widened_if (has set cell) joint set

-- what a vertex was joined with tells what it is joined with now
pub record TellsJoined (before : Grouped) (board : Board) (player : Colour) (stone : Option ℕ)
    (joint : ℕ) : Type 0 where
  pub same_size : board.size ≡ before.board.size
  pub now : (vertex : Vertex) (set : ℕ) → IsSetOf before.board.size (Joined before.board before.player vertex) set
      → IsSetOf board.size (Joined board player vertex) (widened stone joint set)

-- the set has each cell of the board that the vertex is joined with
abbrev pub HoldsJoined : Board → Colour → Vertex → ℕ → Type 0
HoldsJoined board player vertex set = (other : ℕ) → OnBoard board.size other → Joined board player vertex (Of other)
    → has set other ≡ true

-- the set has each cell of the board that an open neighbour of the cell is joined with
abbrev pub HoldsReached : Board → Colour → ℕ → ℕ → Type 0
HoldsReached board player cell set = (vertex : Vertex) → IsOpenNeighbour board player cell vertex
    → HoldsJoined board player vertex set
