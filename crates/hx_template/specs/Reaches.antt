-- What is known of a set of vertices while what is joined with a vertex in a filling is found.
use Rattle.std.specs.Prelude.{◌≡◌, ℕ, true, false}
use Rattle.hx_board.specs.declared.colours.Colour.{Colour}
use Rattle.hx_board.specs.declared.vertices.Vertex.{Vertex}
use Rattle.hx_board.specs.declared.vertices.Vertex.TheVariants.{Of}
use Rattle.hx_board.specs.Sets.{has}
use Rattle.hx_board.specs.Positions.{Board, stones_of}
use Rattle.hx_board.specs.Graph.{IsVertex, IsOwn, Joined}
use Rattle.hx_board.specs.VertexSets.{code_of}

-- a stone of the player on the carrier
pub record IsNew (carrier : ℕ) (board : Board) (player : Colour) (cell : ℕ) : Type 0 where
  pub inside : has carrier cell ≡ true
  pub own : has (stones_of board player) cell ≡ true

-- The set has all that a vertex was joined with at the start, and of each new stone but those that are left all that
-- this was joined with at the start. All that it has is joined with the vertex now.
pub record IsReach (start : Board) (carrier : ℕ) (board : Board) (player : Colour) (a : Vertex) (left reach : ℕ)
    : Type 0 where
  pub sound : (v : Vertex) → IsVertex start.size v → has reach (code_of v) ≡ true → Joined board player a v
  pub from_a : (v : Vertex) → IsVertex start.size v → Joined start player a v → has reach (code_of v) ≡ true
  pub over_own : (u v : Vertex) → IsVertex start.size u → IsVertex start.size v → IsOwn start player u
      → has reach (code_of u) ≡ true → Joined start player u v → has reach (code_of v) ≡ true
  pub over_new : (cell : ℕ) (v : Vertex) → IsNew carrier board player cell → has left cell ≡ false
      → IsVertex start.size v → Joined start player (Of cell) v → has reach (code_of v) ≡ true
  pub new : (cell : ℕ) → has left cell ≡ true → IsNew carrier board player cell
