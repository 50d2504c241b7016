-- A live link that covers another stands in the other's ring, and the links of that ring are of its kind and ends; so a
-- walk along the ring that looks at carriers alone finds one exactly where there is one.
use Rattle.std.proofs.Common.{◌≡◌, ℕ, ◌-◌, List, get_or, sym, ap, ◌∙◌, arith}
use Rattle.std.proofs.lemmas.Option.{get_or_from_slice_get}
use Rattle.std.specs.Prelude.{slice_get}
use Rattle.hx_board.specs.Sets.{IsSubset}
use Rattle.hx_board.specs.Positions.{IsBoard}
use Rattle.hx_board.specs.VertexSets.{IsSomeVertex}
use Rattle.hx_link.specs.declared.links.Link.{Link}
use Rattle.hx_linkset.specs.States.{Standing}
use Rattle.hx_linkset.specs.Answers.{Covers}
use Rattle.hx_linkset.specs.Held.{head_of, IsLiveThere}
use Rattle.hx_linkset.proofs.HeadLaws.{live-same}
use Rattle.hx_linkset.proofs.WalkLaws.{LinkAt}

-- the link that was read is the node's
pub read-at : (links : List Link) (Has : ℕ → Link → Type 0) (head node place : ℕ) (at : LinkAt links Has head node) (read : Link)
    → place ≡ node - 30258 → read ≡ get_or links place read → read ≡ at.link
read-at links Has head node place at read is e =
    let places : place ≡ at.place = omega (arith, at.node_is, is) in
    e ∙ (ap (λ n. get_or links n read) places ∙ get_or_from_slice_get links at.place at.link read at.there)

module _ (set : Standing) (is_board : IsBoard set.present.board) (link : Link) (a_some : IsSomeVertex link.a) (b_some : IsSomeVertex link.b)
    (node place : ℕ) (place_is : place ≡ node - 30258) where
  pub covers-at : (at : LinkAt set.present.links (IsLiveThere set.present.board set.player) (head_of link) node)
      → IsSubset at.link.carrier link.carrier → Covers set place link
  covers-at at inside =
      let same = live-same set.present.board is_board set.player at.link link.kind link.a link.b at.has a_some b_some at.in_ring in
      let places : at.place ≡ place = omega (arith, at.node_is, place_is) in
      record {
        by = at.link;
        there = ap (λ n. slice_get set.present.links n) (sym places) ∙ at.there;
        live = at.has;
        cover = record { same_kind = same.0; same_a = same.1; same_b = same.2; inside = inside };
      }
