-- The head of a ring fixes the kind and the ends of its links, since each vertex has a number of its own below 123.
use Rattle.std.proofs.Common.{◌≡◌, ℕ, ◌+◌, ◌*◌, ◌<◌, refl, arith}
use Rattle.hx_board.specs.declared.colours.Colour.{Colour}
use Rattle.hx_board.specs.declared.vertices.Vertex.{Vertex}
use Rattle.hx_board.specs.Positions.{Board, IsBoard}
use Rattle.hx_board.specs.VertexSets.{code_of, IsSomeVertex}
use Rattle.hx_board.proofs.VertexSetLaws.{some-vertex, code-small, code-same}
use Rattle.hx_link.specs.declared.links.Kind.{Kind}
use Rattle.hx_link.specs.declared.links.Kind.TheVariants.{Full, Semi}
use Rattle.hx_link.specs.declared.links.Link.{Link}
use Rattle.hx_link.specs.Steps.{IsEnd}
use Rattle.hx_link.proofs.LinkLaws.{end-vertex}
use Rattle.hx_linkset.specs.States.{IsLive}
use Rattle.hx_linkset.specs.Held.{kind_code, head_for, head_of}

-- two digits to the base 123
digits-same : (row col row' col' : ℕ) → col < 123 → col' < 123 → 123 * row + col ≡ 123 * row' + col' → (row ≡ row') × (col ≡ col')
digits-same row col row' col' h k e = (omega arith, omega arith)

parts-same : (kind kind' : Kind) (row col row' col' : ℕ) → row < 123 → col < 123 → row' < 123 → col' < 123
    → kind_code kind + 123 * row + col ≡ kind_code kind' + 123 * row' + col'
    → (kind ≡ kind') × (row ≡ row') × (col ≡ col')
parts-same Full Full row col row' col' r c r' c' e = let both = digits-same row col row' col' c c' (omega arith) in (refl, both.0, both.1)
parts-same Full Semi row col row' col' r c r' c' e = absurd (omega arith)
parts-same Semi Full row col row' col' r c r' c' e = absurd (omega arith)
parts-same Semi Semi row col row' col' r c r' c' e = let both = digits-same row col row' col' c c' (omega arith) in (refl, both.0, both.1)

pub head-same : (kind kind' : Kind) (a b a' b' : Vertex) → IsSomeVertex a → IsSomeVertex b → IsSomeVertex a' → IsSomeVertex b'
    → head_for kind a b ≡ head_for kind' a' b' → (kind ≡ kind') × (a ≡ a') × (b ≡ b')
head-same kind kind' a b a' b' ha hb ha' hb' e =
    let w = parts-same kind kind' (code_of a) (code_of b) (code_of a') (code_of b') (code-small a ha) (code-small b hb) (code-small a' ha')
    (code-small b' hb') e in
    (w.0, code-same a a' ha ha' w.1, code-same b b' hb hb' w.2)

pub head-small : (kind : Kind) (a b : Vertex) → IsSomeVertex a → IsSomeVertex b → head_for kind a b < 30258
head-small Full a b ha hb = omega (arith, code-small a ha, code-small b hb)
head-small Semi a b ha hb = omega (arith, code-small a ha, code-small b hb)

module _ (board : Board) (is_board : IsBoard board) (player : Colour) where
  end-some : (vertex : Vertex) → IsEnd board player vertex → IsSomeVertex vertex
  end-some vertex end = some-vertex board.size is_board.0 vertex (end-vertex board player vertex end)

  pub live-some : (link : Link) → IsLive board player link → IsSomeVertex link.a × IsSomeVertex link.b
  live-some link live = (end-some link.a live.a_end, end-some link.b live.b_end)

  pub live-small : (link : Link) → IsLive board player link → head_of link < 30258
  live-small link live = let w = live-some link live in head-small link.kind link.a link.b w.0 w.1

  pub live-same : (link : Link) (kind : Kind) (a b : Vertex) → IsLive board player link → IsSomeVertex a → IsSomeVertex b
      → head_of link ≡ head_for kind a b → (link.kind ≡ kind) × (link.a ≡ a) × (link.b ≡ b)
  live-same link kind a b live ha hb e = let w = live-some link live in head-same link.kind kind link.a link.b a b w.0 w.1 ha hb e
