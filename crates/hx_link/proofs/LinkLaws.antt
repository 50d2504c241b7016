-- Laws of links that the crates above share: ends, the parts of an Or and their carriers, and how many links steps
-- give.
use Rattle.std.proofs.Common.{◌≡◌, ◌≢◌, ℕ, zero, suc, ◌+◌, true, List, [], ◌∷◌, ◌++◌, length, length-append, map, refl, sym, ap, ◌∙◌, Some}
use Rattle.std.proofs.Common.{Option, inl, inr, arith}
use Rattle.std.specs.Prelude.{slice_get, Contains}
use Rattle.std.proofs.lemmas.Option.{slice_get-get_or, slice_get_within, get_or_from_slice_get}
use Rattle.hx_board.specs.declared.colours.Colour.{Colour}
use Rattle.hx_board.specs.declared.vertices.Vertex.{Vertex}
use Rattle.hx_board.specs.declared.vertices.Vertex.TheVariants.{Of, First, Last}
use Rattle.hx_board.specs.Sets.{has}
use Rattle.hx_board.specs.VertexSets.{code_of}
use Rattle.hx_board.specs.Positions.{Board}
use Rattle.hx_board.specs.Graph.{IsVertex}
use Rattle.hx_board.proofs.SetLaws.{has-union_left, has-union_right}
use Rattle.hx_link.specs.declared.links.Link.{Link}
use Rattle.hx_link.specs.declared.steps.Step.{Step}
use Rattle.hx_link.specs.Steps.{IsEnd, IsLink, HasEnds, carriers_of, AreRightSteps}
use Rattle.hx_link.specs.Named.{links_at, IsOneOf}

-- ---- ends

pub end-vertex : (board : Board) (player : Colour) (v : Vertex) → IsEnd board player v → IsVertex board.size v
end-vertex board player (Of cell) end = end.0
end-vertex board player First end = tt
end-vertex board player Last end = tt

-- the two ends of a link differ
pub ends_differ : (board : Board) (player : Colour) (link : Link) (x y : Vertex) → IsLink board player link → HasEnds link x y → x ≢ y
ends_differ board player link x y ok (inl e) same = absurd (omega (arith, ok.lower_first, ap code_of (e.0 ∙ same ∙ sym e.1)))
ends_differ board player link x y ok (inr e) same = absurd (omega (arith, ok.lower_first, ap code_of (e.0 ∙ sym same ∙ sym e.1)))

-- links of the same two vertices have the same ends
pub ends_along : (f p : Link) (u v : Vertex) → HasEnds f u v → HasEnds p u v → HasEnds p f.a f.b
ends_along f p u v (inl a) (inl b) = inl (b.0 ∙ sym a.0, b.1 ∙ sym a.1)
ends_along f p u v (inl a) (inr b) = inr (b.0 ∙ sym a.1, b.1 ∙ sym a.0)
ends_along f p u v (inr a) (inl b) = inr (b.0 ∙ sym a.1, b.1 ∙ sym a.0)
ends_along f p u v (inr a) (inr b) = inl (b.0 ∙ sym a.0, b.1 ∙ sym a.1)

-- ---- parts

pub one_of-contains : (links : List Link) (part : Link) → IsOneOf part links → Contains links part
one_of-contains links part h = (h.0, slice_get_within links h.0 part h.1, get_or_from_slice_get links h.0 part part h.1)

pub contains-one_of : (links : List Link) (part : Link) → Contains links part → IsOneOf part links
contains-one_of links part h = (h.0, slice_get-get_or links h.0 part h.1 ∙ ap Some h.2)

pub one_of_later : (l x : Link) (xs : List Link) → IsOneOf l xs → IsOneOf l (x ∷ xs)
one_of_later l x xs h = (suc h.0, h.1)

pub same_front : {x y : Option Link} {xs ys : List (Option Link)} → x ≡ y → xs ≡ ys → x ∷ xs ≡ y ∷ ys
same_front a b = cc

-- the place that is named for one of the links
pub place_of : (before : List Link) (places : List ℕ) (links : List Link) → links_at before places ≡ map (λ (l : Link). Some l) links
    → (k : ℕ) (part : Link) → slice_get links k ≡ Some part → (place : ℕ)
    × ((slice_get places k ≡ Some place) × (slice_get before place ≡ Some part))
place_of before [] [] e k part h = cc
place_of before [] (l ∷ ls) e k part h = cc
place_of before (p ∷ ps) [] e k part h = cc
place_of before (p ∷ ps) (l ∷ ls) e zero part h = (p, (refl, let there : slice_get before p ≡ Some l = cc in there ∙ h))
place_of before (p ∷ ps) (l ∷ ls) e (suc k) part h = place_of before ps ls (cc) k part h

pub in_carriers : (links : List Link) (place : ℕ) (part : Link) → slice_get links place ≡ Some part → (n : ℕ) → has part.carrier n ≡ true
    → has (carriers_of links) n ≡ true
in_carriers [] place part there n h = cc
in_carriers (l ∷ ls) zero part there n h = let same : l ≡ part = cc in has-union_left l.carrier (carriers_of ls) n (rw same h)
in_carriers (l ∷ ls) (suc place) part there n h = has-union_right l.carrier (carriers_of ls) n (in_carriers ls place part there n h)

-- ---- steps

-- steps give as many links as they are
pub steps-length : (board : Board) (player : Colour) (before : List Link) (steps : List Step) (links : List Link)
    → AreRightSteps board player before steps links
    → length links ≡ length before + length steps
steps-length board player before [] links right = ap length right ∙ omega arith
steps-length board player before (step ∷ steps) links right =
    omega (arith, steps-length board player (before ++ right.0 ∷ []) steps links right.2, length-append before (right.0 ∷ []))
