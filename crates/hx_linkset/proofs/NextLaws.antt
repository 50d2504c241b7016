-- The next link of the same kind and ends. The ring of a head has exactly the live links of its kind and ends, so the
-- node after one of them, or after the head, is the next of them; and where it is a head, no more come.
use Rattle.std.proofs.Common.{◌≡◌, ℕ, ◌+◌, ◌-◌, ◌<◌, ◌≤◌, get_or, refl, sym, ap, ◌∙◌, inl, inr, Some, ◌⊎◌, ⊎_elim, arith}
use Rattle.std.specs.Prelude.{slice_get}
use Rattle.std.proofs.lemmas.Bool.{cases_lt}
use Rattle.std.proofs.lemmas.Option.{slice_get_within}
use Rattle.hx_board.specs.declared.vertices.Vertex.{Vertex}
use Rattle.hx_link.specs.declared.links.Kind.{Kind}
use Rattle.hx_link.specs.declared.links.Link.{Link}
use Rattle.hx_link.specs.Steps.{IsLink}
use Rattle.hx_linkset.specs.States.{Standing, IsLive, IsRight}
use Rattle.hx_linkset.specs.Rings.{Rings}
use Rattle.hx_linkset.specs.Held.{IsHeadBetween, head_for, head_of, head_at, IsLinked, RingsHold, IsLiveThere}
use Rattle.hx_linkset.specs.LiveOf.{IsLiveOf, IsFirstFrom}
use Rattle.hx_board.proofs.ListLaws.{get-there}
use Rattle.hx_linkset.proofs.OrderLaws.{ends-to, ends-from}
use Rattle.hx_linkset.proofs.HeadLaws.{head-small, live-some, live-same}
use Rattle.hx_linkset.proofs.PassLaws.{head_at-link, head_at-low}
use Rattle.hx_linkset.proofs.WalkLaws.{LinkAt, none_past, goes_up, walk-link}

module _ (set : Standing) (right : IsRight set.player set.present) where
  -- a live link is one that there can be on the board
  pub live-is_link : (place : ℕ) (link : Link) → slice_get set.present.links place ≡ Some link → IsLive set.present.board set.player link
      → IsLink set.present.board set.player link
  live-is_link place link there live =
      let step = get-there set.present.steps place (omega (arith, right.steps_of, slice_get_within set.present.links place link there)) in
      (right.given place link step.0 there step.1 live).gives.link_ok

  -- a live link's own head is that of its ends
  pub head_between-link : (kind : Kind) (a b : Vertex) (place : ℕ) (is : IsLiveOf set kind a b place)
      → IsHeadBetween kind a b (head_of is.link)
  head_between-link kind a b place is =
      let some = live-some set.present.board right.is_board set.player is.link is.live in
      let ok : IsLink set.present.board set.player is.link = live-is_link place is.link is.there is.live in
      record {
        low = is.link.a;
        high = is.link.b;
        in_order = record { order = omega (arith, ok.lower_first); same = is.ends };
        low_some = some.0;
        high_some = some.1;
        head_is = ap (λ (k : Kind). head_for k is.link.a is.link.b) is.kind_is;
      }

  module _ (rings : Rings) (hold : RingsHold set.present.links (IsLiveThere set.present.board set.player) rings) (kind : Kind)
      (a b : Vertex) (head : ℕ) (of : IsHeadBetween kind a b head) where
    abbrev Has : ℕ → Link → Type 0
    Has = IsLiveThere set.present.board set.player

    pub head-low : head < 30258
    head-low = rw of.head_is (head-small kind of.low of.high of.low_some of.high_some)

    in_ring : (place : ℕ) (is : IsLiveOf set kind a b place) → head_of is.link ≡ head
    in_ring place is =
        let ends = ends-from a b of.low of.high of.in_order is.link (live-is_link place is.link is.there is.live).lower_first is.ends in
        ap (λ (k : Kind). head_for k is.link.a is.link.b) is.kind_is
        ∙ (ap (λ (v : Vertex). head_for kind v is.link.b) ends.0 ∙ (ap (λ (v : Vertex). head_for kind of.low v) ends.1 ∙ sym of.head_is))

    from_ring : (node place : ℕ) → place ≡ node - 30258 → LinkAt set.present.links Has head node → IsLiveOf set kind a b place
    from_ring node place e at =
        let same = live-same set.present.board right.is_board set.player at.link kind of.low of.high at.has of.low_some of.high_some
        (at.in_ring ∙ of.head_is) in
        let places : at.place ≡ place = omega (arith, at.node_is, e) in
        record {
          link = at.link;
          there = ap (λ n. slice_get set.present.links n) (sym places) ∙ at.there;
          live = at.has;
          kind_is = same.0;
          ends = ends-to a b of.low of.high of.in_order at.link (same.1, same.2);
        }

    module _ (node : ℕ) (linked : IsLinked set.present.links Has node) (here : head_at set.present.links node ≡ head) where
      abbrev after : ℕ
      after = get_or rings.next node 0

      past : (place : ℕ) → node < 30258 + place → (after < 30258) ⊎ (30258 + place < after) → IsLiveOf set kind a b place → ⊥
      past place less before is = none_past set.present.links Has rings hold head head-low node (30258 + place) linked here
          (inr (place, (is.link, (refl, (is.there, is.live)))))
          (head_at-link set.present.links place is.link is.there ∙ in_ring place is) less before

      pub next-none : after < 30258 → (place : ℕ) → node < 30258 + place → IsLiveOf set kind a b place → ⊥
      next-none low place less = past place less (inl low)

      at_after : 30258 ≤ after → LinkAt set.present.links Has head after
      at_after high = walk-link set.present.links Has rings hold head head-low (λ link. ⊥) after record {
        linked = hold.rings_ok.next_linked node linked;
        in_ring = hold.rings_ok.same_head node linked ∙ here;
        passed = λ place link there has e before wanted. wanted;
      } high

      pub next-some : (bound place : ℕ) → 30258 ≤ after → place ≡ after - 30258 → node < 30258 + bound
          → (30258 ≤ node → 30258 + bound ≡ node + 1) → (node < 30258 → bound ≡ 0) → IsFirstFrom set kind a b bound place
      next-some bound place high e above at_node at_head = record {
        is = from_ring after place e (at_after high);
        not_below = ⊎_elim (λ low. omega (arith, low, high)) (λ up. not_below up)
            (goes_up set.present.links Has rings hold head head-low node linked here);
        first = λ other le less. past other (omega (arith, le, above)) (inr (omega (arith, less, e, high)));
      }
        where
          not_below : node < after → bound ≤ place
          not_below up = ⊎_elim (λ low. omega (arith, at_head low)) (λ le. omega (arith, at_node le, up, e, high)) (sides node)
            where
              sides : (n : ℕ) → (n < 30258) ⊎ (30258 ≤ n)
              sides n = cases_lt n 30258

  module _ (rings : Rings) (hold : RingsHold set.present.links (IsLiveThere set.present.board set.player) rings) where
    -- from a head on
    module _ (kind : Kind) (a b : Vertex) (head : ℕ) (of : IsHeadBetween kind a b head) where
      abbrev at_start : ℕ
      at_start = get_or rings.next head 0

      low : head < 30258
      low = head-low rings hold kind a b head of

      pub first-none : at_start < 30258 → (place : ℕ) → IsLiveOf set kind a b place → ⊥
      first-none none place =
          next-none rings hold kind a b head of head (inl low) (head_at-low set.present.links head low) none place (omega (arith, low))

      pub first-some : (place : ℕ) → 30258 ≤ at_start → place ≡ at_start - 30258 → IsFirstFrom set kind a b 0 place
      first-some place high e =
          next-some rings hold kind a b head of head (inl low) (head_at-low set.present.links head low) 0 place high e (omega (arith, low))
          (λ le. absurd (omega (arith, le, low))) (λ k. refl)

    -- from a live link on
    module _ (kind : Kind) (a b : Vertex) (index : ℕ) (is : IsLiveOf set kind a b index) where
      abbrev at_next : ℕ
      at_next = get_or rings.next (30258 + index) 0

      linked : IsLinked set.present.links (IsLiveThere set.present.board set.player) (30258 + index)
      linked = inr (index, (is.link, (refl, (is.there, is.live))))

      of : IsHeadBetween kind a b (head_of is.link)
      of = head_between-link kind a b index is

      pub later-none : at_next < 30258 → (place : ℕ) → index < place → IsLiveOf set kind a b place → ⊥
      later-none none place less =
          next-none rings hold kind a b (head_of is.link) of (30258 + index) linked
          (head_at-link set.present.links index is.link is.there) none place (omega (arith, less))

      pub later-some : (place : ℕ) → 30258 ≤ at_next → place ≡ at_next - 30258 → IsFirstFrom set kind a b (index + 1) place
      later-some place high e =
          next-some rings hold kind a b (head_of is.link) of (30258 + index) linked (head_at-link set.present.links index is.link is.there)
          (index + 1) place high e (omega arith) (λ le. omega arith) (λ k. absurd (omega (arith, k)))
