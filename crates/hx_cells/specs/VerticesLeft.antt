-- Sets of vertices that are gone through.
use Rattle.std.specs.Prelude.{◌≡◌, ℕ, MatchOption}
use Rattle.std.specs.declared.option.Option.{Option}
use Rattle.hx_board.specs.declared.vertices.Vertex.{Vertex}
use Rattle.hx_board.specs.Sets.{remove, IsLowest}
use Rattle.hx_board.specs.VertexSets.{code_of, IsSomeVertex}

-- the first vertex that was left comes, and all others are left still
pub record VertexComes (before : ℕ) (vertex : Vertex) (after : ℕ) : Type 0 where
  pub first : IsLowest before (code_of vertex)
  pub some : IsSomeVertex vertex
  pub rest : after ≡ remove before (code_of vertex)

-- the first vertex that is left comes, and none exactly where none is left
abbrev pub GivesVertex : ℕ → Option Vertex → ℕ → Type 0
GivesVertex before given after =
    MatchOption given ((before ≡ 0) × (after ≡ 0)) (λ vertex. VertexComes before vertex after)
