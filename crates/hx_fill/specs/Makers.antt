-- Which further stone of a player makes a cell dead. These words are for the functions inside the crate alone.
use Rattle.std.specs.Prelude.{◌≡◌, ◌≢◌, ℕ, true, false, ◌⊎◌, ◌↔◌, IsTrue}
use Rattle.hx_board.specs.declared.colours.Colour.{Colour}
use Rattle.hx_board.specs.declared.vertices.Vertex.{Vertex}
use Rattle.hx_board.specs.declared.vertices.Vertex.TheVariants.{Of}
use Rattle.hx_board.specs.Sets.{has}
use Rattle.hx_board.specs.Cells.{Extent}
use Rattle.hx_board.specs.Positions.{Board, IsEmpty, put}
use Rattle.hx_board.specs.Graph.{IsVertex, Joined}
use Rattle.hx_board.specs.VertexSets.{code_of, IsVertexCode}
use Rattle.hx_inferior.specs.Inferior.{IsDead}
use Rattle.hx_fill.specs.declared.makers.Makers.{Makers}

-- another empty cell, and with the player's stone on it the cell is dead
pub record IsMaker (board : Board) (player : Colour) (cell other : ℕ) : Type 0 where
  pub empty : IsEmpty board other
  pub differ : other ≢ cell
  pub dead : IsDead (put board player other) player cell

-- whether a cell is dead, and its makers among some cells
pub record AreMakers (board : Board) (player : Colour) (cell among : ℕ) (makers : Makers) : Type 0 where
  pub dead : IsTrue makers.is_dead ↔ IsDead board player cell
  pub cells : (other : ℕ)
      → (has makers.cells other ≡ true) ↔ ((has among other ≡ true) × IsMaker board player cell other)

-- some makers of a cell
abbrev pub AreMakersAmong : Board → Colour → ℕ → ℕ → Type 0
AreMakersAmong board player cell makers = (other : ℕ) → has makers other ≡ true → IsMaker board player cell other

-- a set of vertices of the board
abbrev pub AreVertices : Extent → ℕ → Type 0
AreVertices size around = (n : ℕ) → has around n ≡ true → IsVertexCode size n

-- a vertex of the board that is in the set
abbrev pub IsAmong : Extent → ℕ → Vertex → Type 0
IsAmong size around vertex = IsVertex size vertex × (has around (code_of vertex) ≡ true)

-- a vertex that is joined with each one of the set
abbrev pub JoinsEach : Board → Colour → ℕ → Vertex → Type 0
JoinsEach board player around vertex = (other : Vertex) → IsAmong board.size around other
    → Joined board player vertex other

-- a vertex that is joined with each one of the set, or else with a further cell
abbrev pub JoinsEachOr : Board → Colour → ℕ → ℕ → Vertex → Type 0
JoinsEachOr board player around other vertex = (neighbour : Vertex) → IsAmong board.size around neighbour
    → Joined board player vertex neighbour ⊎ Joined board player vertex (Of other)

-- what one of the open neighbours leaves of the makers
pub record IsNarrowed (board : Board) (player : Colour) (around : ℕ) (vertex : Vertex)
    (before after : Makers) : Type 0 where
  pub dead : IsTrue after.is_dead ↔ (IsTrue before.is_dead × JoinsEach board player around vertex)
  pub cells : (other : ℕ)
      → (has after.cells other ≡ true)
      ↔ ((has before.cells other ≡ true) × JoinsEachOr board player around other vertex)

-- what the open neighbours leave of the makers, but for those in a set
pub record AreNarrowed (board : Board) (player : Colour) (around left : ℕ) (before after : Makers) : Type 0 where
  pub dead : IsTrue after.is_dead ↔ (IsTrue before.is_dead
      × ((vertex : Vertex) → IsAmong board.size around vertex → has left (code_of vertex) ≡ false
      → JoinsEach board player around vertex))
  pub cells : (other : ℕ) → (has after.cells other ≡ true) ↔ ((has before.cells other ≡ true)
      × ((vertex : Vertex) → IsAmong board.size around vertex → has left (code_of vertex) ≡ false
      → JoinsEachOr board player around other vertex))
