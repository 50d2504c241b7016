-- A node by a link is right, where the link is live between the sides, and is Full or the player is to move.
use Rattle.std.proofs.Common.{◌≡◌, ℕ, suc, ◌-◌, ◌<◌, ◌≤◌, List, [], ◌∷◌, length, refl, sym, ap, ◌∙◌, arith, ◌⊎◌, inl, inr, Some}
use Rattle.std.specs.Prelude.{slice_get}
use Rattle.hx_board.specs.declared.colours.Colour.{Colour}
use Rattle.hx_board.specs.declared.vertices.Vertex.TheVariants.{First, Last}
use Rattle.hx_board.specs.Positions.{Board}
use Rattle.hx_board.specs.VertexSets.{code_of}
use Rattle.hx_link.specs.declared.links.Kind.{Kind}
use Rattle.hx_link.specs.declared.links.Kind.TheVariants.{Full, Semi}
use Rattle.hx_link.specs.declared.links.Link.{Link}
use Rattle.hx_link.specs.declared.steps.Step.{Step}
use Rattle.hx_link.specs.Steps.{IsChainLink, IsLink, HasEnds}
use Rattle.hx_link.proofs.LinkLaws.{steps-length}
use Rattle.hx_tree.specs.declared.nodes.Heading.{Heading}
use Rattle.hx_tree.specs.declared.nodes.Rule.TheVariants.{Links}
use Rattle.hx_tree.specs.Rules.{IsRightNode}
use Rattle.hx_linkset.specs.declared.limits.TheConstants.{MOST_LINKS}
use Rattle.hx_linkset.specs.States.{Standing, IsRight}
use Rattle.hx_linkset.specs.LiveOf.{IsLiveOf}
use Rattle.hx_linkset.specs.Derivations.{IsDerived}
use Rattle.hx_linkset.proofs.NextLaws.{live-is_link}
use Rattle.hx_linkset.specs.LiveOf.{Decides}
use Rattle.hx_nodes.proofs.MoveNodes.{node_of}

-- a link of the two sides has First as its lower end
pub sides-chain : (board : Board) (player : Colour) (link : Link) → IsLink board player link → HasEnds link First Last → IsChainLink link
sides-chain board player link ok (inl ends) = record { first = ends.0; last = ends.1 }
sides-chain board player link ok (inr ends) =
    let low : code_of link.a < code_of link.b = ok.lower_first in
    let a : code_of link.a ≡ 122 = ap code_of ends.0 in
    let b : code_of link.b ≡ 121 = ap code_of ends.1 in
    absurd (omega arith)

one_place : (places : List ℕ) → length places ≡ 1 → (place : ℕ) × (slice_get places 0 ≡ Some place)
one_place [] one = absurd (omega arith)
one_place (place ∷ places) one = (place, refl)

module _ (set : Standing) (right : IsRight set.player set.present) where
  pub live-chain : (kind : Kind) (place : ℕ) (is : IsLiveOf set kind First Last place) → IsChainLink is.link
  live-chain kind place is =
      sides-chain set.present.board set.player is.link (live-is_link set right place is.link is.there is.live) is.ends

  -- a live link between the sides proves that the set's player wins, if it is Full or the player is to move
  pub links_right : (headings : List Heading) (mover : Colour) (kind : Kind) (place : ℕ) (is : IsLiveOf set kind First Last place)
      (steps : List Step) (places : List ℕ) → (is.link.kind ≡ Full) ⊎ (mover ≡ set.player) → length set.present.links ≤ MOST_LINKS
      → IsDerived set.present.board set.player set.present.links (place ∷ []) steps places
      → IsRightNode headings (node_of set.present.board mover set.player (Links steps))
  links_right headings mover kind place is steps places in_time few derived =
      let one = one_place places (derived.places_of) in
      let last : suc one.0 ≡ length steps = derived.last refl one.0 one.1 in
      let gives : slice_get derived.links one.0 ≡ Some is.link = derived.gives 0 place one.0 refl one.1 ∙ is.there in
      let long : length derived.links ≡ length steps =
      omega (arith, steps-length set.present.board set.player [] steps derived.links derived.right) in
      let here : length derived.links - 1 ≡ one.0 = omega arith in
      record {
        board = right.is_board;
        rule = record {
          links = derived.links;
          steps_right = record { few = omega (arith, derived.few); right = derived.right };
          last = is.link;
          is_last = rw here gives;
          joins = live-chain kind place is;
          in_time = in_time;
        };
      }

  pub decided_right : (headings : List Heading) (mover : Colour) (place : ℕ) (steps : List Step) (places : List ℕ) → Decides set mover place
      → length set.present.links ≤ MOST_LINKS → IsDerived set.present.board set.player set.present.links (place ∷ []) steps places
      → IsRightNode headings (node_of set.present.board mover set.player (Links steps))
  decided_right headings mover place steps places (inl full) few derived =
      links_right headings mover Full place full steps places (inl full.kind_is) few derived
  decided_right headings mover place steps places (inr semi) few derived =
      links_right headings mover Semi place semi.0 steps places (inr (sym semi.1)) few derived
