-- What some vertices are joined with, gathered vertex by vertex and cell by cell.
use Rattle.std.proofs.Common.{◌≡◌, ℕ, true, false, sym, ◌∙◌, subst, ⊎_elim}
use Rattle.std.proofs.lemmas.Bool.{false≢true}
use Rattle.hx_board.specs.declared.colours.Colour.{Colour}
use Rattle.hx_board.specs.declared.vertices.Vertex.{Vertex}
use Rattle.hx_board.specs.declared.vertices.Vertex.TheVariants.{Of}
use Rattle.hx_board.specs.Sets.{has, union, remove, IsSubset}
use Rattle.hx_board.specs.Cells.{IsExtent}
use Rattle.hx_board.specs.Positions.{Board}
use Rattle.hx_board.specs.Graph.{Joined}
use Rattle.hx_board.specs.VertexSets.{code_of, IsSetOf}
use Rattle.hx_board.proofs.SetLaws.{has-empty, has-union_left, has-union_right, has-remove_before, removed_cases}
use Rattle.hx_board.proofs.FloodLaws.{same_vertex}
use Rattle.hx_inferior.specs.Inferior.{IsOpenNeighbour}
use Rattle.hx_fill.specs.Makers.{IsAmong}
use Rattle.hx_fill.specs.Views.{HoldsJoined, HoldsReached}
use Rattle.hx_fill.proofs.OpenAfter.{among-open}

module _ (board : Board) (player : Colour) where
  -- all that the vertices are joined with, but for those that are left
  pub record HoldsAllBut (around left found : ℕ) : Type 0 where
    pub inside : IsSubset left around
    pub held : (vertex : Vertex) → IsAmong board.size around vertex → has left (code_of vertex) ≡ false
        → HoldsJoined board player vertex found

  pub holds-none : (around : ℕ) → HoldsAllBut around around 0
  holds-none around = record { inside = λ n h. h; held = λ vertex among out. absurd (false≢true (sym out ∙ among.1)) }

  pub holds-next : IsExtent board.size.rows board.size.cols → (around left found joined : ℕ) (next : Vertex)
      → IsAmong board.size around next
      → IsSetOf board.size (Joined board player next) joined → HoldsAllBut around left found
      → HoldsAllBut around (remove left (code_of next)) (union found joined)
  holds-next extent around left found joined next in_next is before = record {
    inside = λ n h. before.inside n (has-remove_before left (code_of next) n h);
    held = λ vertex among out other on j. ⊎_elim
        (λ (same : code_of vertex ≡ code_of next). has-union_right found joined other ((is.members (Of other) on).1
        (let P : Vertex → Type 0 = λ v. Joined board player v (Of other) in
        subst P (same_vertex board.size extent vertex next among.0 in_next.0 same) j)))
        (λ still. has-union_left found joined other (before.held vertex among still other on j))
        (removed_cases left (code_of next) (code_of vertex) out);
  }

  pub holds-all : (around left found : ℕ) → left ≡ 0 → HoldsAllBut around left found
      → (vertex : Vertex) → IsAmong board.size around vertex → HoldsJoined board player vertex found
  holds-all around left found none before vertex among = before.held vertex among (rw none (has-empty (code_of vertex)))

  pub holds-open : (cell around near : ℕ) → IsSetOf board.size (IsOpenNeighbour board player cell) around
      → ((vertex : Vertex) → IsAmong board.size around vertex → HoldsJoined board player vertex near) → HoldsReached board player cell near
  holds-open cell around near is holds vertex o = holds vertex ((among-open board player cell around is vertex).1 o)

  pub holds-more : (cells left cell found near : ℕ)
      → ((n : ℕ) → has cells n ≡ true → has left n ≡ false → HoldsReached board player n found) → HoldsReached board player cell near
      → (n : ℕ) → has cells n ≡ true → has (remove left cell) n ≡ false → HoldsReached board player n (union found near)
  holds-more cells left cell found near held here n among out vertex o other on joined = ⊎_elim
      (λ (same : n ≡ cell).
      has-union_right found near other
      (here vertex (let P : ℕ → Type 0 = λ x. IsOpenNeighbour board player x vertex in subst P same o) other on joined))
      (λ still. has-union_left found near other (held n among still vertex o other on joined)) (removed_cases left cell n out)
