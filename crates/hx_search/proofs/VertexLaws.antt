-- The vertices of a board by number: what holds of those below a bound, and of the one at it, holds below the next
-- bound.
use Rattle.std.proofs.Common.{◌≡◌, ℕ, ◌<◌, ◌+◌, sym, ap, ◌∙◌, subst, inl, inr, ⊎_elim, arith}
use Rattle.std.proofs.lemmas.Bool.{false≢true, cases_eq}
use Rattle.hx_board.specs.declared.colours.Colour.{Colour}
use Rattle.hx_board.specs.declared.colours.Colour.TheVariants.{Black, White}
use Rattle.hx_board.specs.declared.vertices.Vertex.{Vertex}
use Rattle.hx_board.specs.declared.vertices.Vertex.TheVariants.{Of}
use Rattle.hx_board.specs.Cells.{Extent, IsExtent}
use Rattle.hx_board.specs.Positions.{Board, IsEmpty}
use Rattle.hx_board.specs.Graph.{IsVertex, IsOwn}
use Rattle.hx_board.specs.VertexSets.{code_of, IsVertexAt}
use Rattle.hx_board.proofs.VertexSetLaws.{some-vertex, code-same}
use Rattle.hx_link.specs.declared.links.Kind.{Kind}
use Rattle.hx_link.specs.declared.links.Link.{Link}
use Rattle.hx_link.specs.Steps.{HasEnds}
use Rattle.hx_link.proofs.LinkLaws.{end-vertex}
use Rattle.hx_linkset.specs.States.{Standing}
use Rattle.hx_linkset.specs.LiveOf.{IsLiveOf}
use Rattle.hx_board.specs.Positions.{IsBoard}
use Rattle.hx_reach.specs.Growth.{IsGrown}

module _ (size : Extent) (P : Vertex → Type 0) (code : ℕ) (below : (w : Vertex) → IsVertex size w → code_of w < code → P w) where
  pub below-more : IsExtent size.rows size.cols → (v : Vertex) → IsVertexAt size code v → P v → (w : Vertex) → IsVertex size w
      → code_of w < code + 1 → P w
  below-more extent v at here w is less = ⊎_elim
      (λ e. subst P (code-same v w (some-vertex size extent v at.is_vertex) (some-vertex size extent w is) (at.is_code ∙ sym e)) here)
      (λ ne. below w is (omega (arith, less, ne)))
      (cases_eq (code_of w) code)

  pub below-skip : ((v : Vertex) → IsVertexAt size code v → ⊥) → (w : Vertex) → IsVertex size w → code_of w < code + 1 → P w
  below-skip none w is less = ⊎_elim
      (λ e. absurd (none w record { is_vertex = is; is_code = e }))
      (λ ne. below w is (omega (arith, less, ne)))
      (cases_eq (code_of w) code)

-- ---- ends

pub swapped : (l : Link) (x y : Vertex) → HasEnds l x y → HasEnds l y x
swapped l x y (inl e) = inr e
swapped l x y (inr e) = inl e

abbrev pub live_of-swapped : (set : Standing) (kind : Kind) (a b : Vertex) (place : ℕ) → IsLiveOf set kind a b place
    → IsLiveOf set kind b a place
live_of-swapped set kind a b place is =
    record { link = is.link; there = is.there; live = is.live; kind_is = is.kind_is; ends = swapped is.link a b is.ends }

-- the ends of a live link are vertices of the board
pub live_of-vertex : (set : Standing) (kind : Kind) (a b : Vertex) (place : ℕ) → IsLiveOf set kind a b place
    → IsVertex set.present.board.size a
live_of-vertex set kind a b place is =
    let P : Vertex → Type 0 = λ v. IsVertex set.present.board.size v in
    ⊎_elim
    (λ e. subst P e.0 (end-vertex set.present.board set.player is.link.a is.live.a_end))
    (λ e. subst P e.1 (end-vertex set.present.board set.player is.link.b is.live.b_end))
    is.ends

-- an empty cell is not the player's own
pub empty-not_own : (board : Board) (player : Colour) (cell : ℕ) → IsEmpty board cell → IsOwn board player (Of cell) → ⊥
empty-not_own board Black cell empty own = false≢true (sym empty.no_black ∙ own)
empty-not_own board White cell empty own = false≢true (sym empty.no_white ∙ own)

-- ---- the size of the board, read before links were added

pub size-extent : (size : Extent) (position : Board) → size ≡ position.size → IsBoard position → IsExtent size.rows size.cols
size-extent size position e valid = let P : Extent → Type 0 = λ s. IsExtent s.rows s.cols in subst P (sym e) valid.0

pub size-on : (was now : Standing) (size : Extent) (position : Board) → IsGrown was now → size ≡ position.size
    → position ≡ was.present.board → size ≡ now.present.board.size
size-on was now size position g e f = e ∙ (ap (λ (b : Board). b.size) f ∙ ap (λ (b : Board). b.size) (sym g.same_board))

pub set-extent : (set : Standing) (size : Extent) → size ≡ set.present.board.size → IsExtent size.rows size.cols
    → IsExtent set.present.board.size.rows set.present.board.size.cols
set-extent set size e extent = let P : Extent → Type 0 = λ s. IsExtent s.rows s.cols in subst P e extent
