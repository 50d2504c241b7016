-- The walk along two rings finds each link of either, once and in rising order.
--
-- The plan: from a number on, both walks have come to the first node of their ring that is not below it (`Reaches`).
-- The lower of the two nodes is then the next link of either ring, and after it both walks reach on from the next
-- number. No more come than there are links, so the bound on their number never cuts the walk short.
use Rattle.std.proofs.lemmas.Bool.{cases_lt, cases_eq, ltb-true, ltb-false}
use Rattle.std.proofs.lemmas.Option.{slice_get_within}
use Rattle.std.proofs.Common.{◌≡◌, ◌≢◌, ℕ, zero, suc, ◌+◌, ◌-◌, ◌<◌, ◌≤◌, Bool, true, false, List, [], ◌∷◌, length}
use Rattle.std.proofs.Common.{get_or, refl, sym, ap, ◌∙◌, subst, inl, inr, Some, None, Option, ◌⊎◌, ⊎_elim, arith}
use Rattle.std.specs.Prelude.{slice_get}
use Rattle.hx_board.specs.declared.vertices.Vertex.{Vertex}
use Rattle.hx_board.specs.VertexSets.{IsSomeVertex}
use Rattle.hx_link.specs.declared.links.Kind.{Kind}
use Rattle.hx_link.specs.declared.links.Kind.TheVariants.{Full, Semi}
use Rattle.hx_link.specs.declared.links.Link.{Link}
use Rattle.hx_link.specs.Steps.{HasEnds}
use Rattle.hx_linkset.specs.States.{Standing, IsRight}
use Rattle.hx_linkset.specs.Rings.{Rings}
use Rattle.hx_linkset.specs.Held.{AreLowAndHigh, head_for, head_of, head_at, IsLinked, RingsHold, IsLiveThere}
use Rattle.hx_linkset.specs.LivePairs.{IsLivePair, AreLivePairs, lower_by, lower_of, from_lower, pairs_from}
use Rattle.hx_board.proofs.VertexSetLaws.{code-small}
use Rattle.hx_linkset.proofs.RisingLists.{AreAllFrom, all-rising, all-each, all-contains}
use Rattle.hx_linkset.proofs.OrderLaws.{ends-to, ends-from}
use Rattle.hx_linkset.proofs.NextLaws.{live-is_link}
use Rattle.hx_linkset.proofs.HeadLaws.{head-small, live-same}
use Rattle.hx_linkset.proofs.PassLaws.{head_at-link, head_at-low}
use Rattle.hx_linkset.proofs.WalkLaws.{none_past, goes_up}

-- ---- one step of the walk

pub pairs-none : (next : List ℕ) (left full semi : ℕ) → left ≡ 0 → pairs_from next left full semi ≡ []
unfolding pairs_from
pairs-none next zero full semi e = refl
pairs-none next (suc left) full semi e = absurd (omega arith)

pub pairs-step : (next : List ℕ) (left full semi : ℕ) (lower : Option Kind) → lower_of full semi ≡ lower
    → pairs_from next (suc left) full semi
    ≡ from_lower lower (full - 30258) (pairs_from next left (get_or next full 0) semi) (semi - 30258)
    (pairs_from next left full (get_or next semi 0))
unfolding pairs_from
pairs-step next left full semi lower e =
    ap (λ (t : Option Kind).
    from_lower t (full - 30258) (pairs_from next left (get_or next full 0) semi) (semi - 30258)
    (pairs_from next left full (get_or next semi 0))) e

module _ (next : List ℕ) (left full semi after : ℕ) (some : left ≢ 0) where
  one_more : left ≡ suc (left - 1)
  one_more = omega arith

  pub pairs-full : lower_of full semi ≡ Some Full → after ≡ get_or next full 0
      → pairs_from next left full semi ≡ (full - 30258) ∷ pairs_from next (left - 1) after semi
  pairs-full lower is =
      ap (λ n. pairs_from next n full semi) one_more
      ∙ (pairs-step next (left - 1) full semi (Some Full) lower ∙ ap (λ n. (full - 30258) ∷ pairs_from next (left - 1) n semi) (sym is))

  pub pairs-semi : lower_of full semi ≡ Some Semi → after ≡ get_or next semi 0
      → pairs_from next left full semi ≡ (semi - 30258) ∷ pairs_from next (left - 1) full after
  pairs-semi lower is =
      ap (λ n. pairs_from next n full semi) one_more
      ∙ (pairs-step next (left - 1) full semi (Some Semi) lower ∙ ap (λ n. (semi - 30258) ∷ pairs_from next (left - 1) full n) (sym is))

  pub pairs-end : lower_of full semi ≡ None → pairs_from next left full semi ≡ []
  pairs-end lower = ap (λ n. pairs_from next n full semi) one_more ∙ pairs-step next (left - 1) full semi None lower

lower_by-none : (p q r : Bool) → lower_by p q r ≡ None → (p ≡ true) × (q ≡ true)
lower_by-none true true r e = (refl, refl)
lower_by-none false true r e = cc
lower_by-none true false r e = cc
lower_by-none false false true e = cc
lower_by-none false false false e = cc

lower_by-full : (p q r : Bool) → lower_by p q r ≡ Some Full → (p ≡ false) × ((q ≡ true) ⊎ (r ≡ true))
lower_by-full true true r e = cc
lower_by-full false true r e = (refl, inl refl)
lower_by-full true false r e = cc
lower_by-full false false true e = (refl, inr refl)
lower_by-full false false false e = cc

lower_by-semi : (p q r : Bool) → lower_by p q r ≡ Some Semi → (q ≡ false) × ((p ≡ true) ⊎ (r ≡ false))
lower_by-semi true true r e = cc
lower_by-semi false true r e = cc
lower_by-semi true false r e = (refl, inl refl)
lower_by-semi false false true e = cc
lower_by-semi false false false e = (refl, inr refl)

lower-none : (full semi : ℕ) → lower_of full semi ≡ None → (full < 30258) × (semi < 30258)
lower-none full semi e = let w = lower_by-none _ _ _ e in (ltb-true _ _ w.0, ltb-true _ _ w.1)

pub lower-full : (full semi : ℕ) → lower_of full semi ≡ Some Full → (30258 ≤ full) × ((semi < 30258) ⊎ (full < semi))
lower-full full semi e = let w = lower_by-full _ _ _ e in
    (ltb-false _ _ w.0, ⊎_elim (λ k. inl (ltb-true _ _ k)) (λ k. inr (ltb-true _ _ k)) w.1)

pub lower-semi : (full semi : ℕ) → lower_of full semi ≡ Some Semi → (30258 ≤ semi) × ((full < 30258) ⊎ (semi ≤ full))
lower-semi full semi e = let w = lower_by-semi _ _ _ e in
    (ltb-false _ _ w.0, ⊎_elim (λ k. inl (ltb-true _ _ k)) (λ k. inr (ltb-false _ _ k)) w.1)

-- ---- one ring

-- at this place is a link of one of two rings
abbrev IsInEither : List Link → (ℕ → Link → Type 0) → ℕ → ℕ → ℕ → Type 0
IsInEither links Has one other place =
    (link : Link) × ((slice_get links place ≡ Some link) × (Has place link × ((head_of link ≡ one) ⊎ (head_of link ≡ other))))

module _ (links : List Link) (Has : ℕ → Link → Type 0) (rings : Rings) (hold : RingsHold links Has rings) where
  -- the walk has come to the first node of the ring that is not below this place
  record Reaches (head node from : ℕ) : Type 0 where
    linked : IsLinked links Has node
    in_ring : head_at links node ≡ head
    not_below : 30258 ≤ node → 30258 + from ≤ node
    first : (place : ℕ) (link : Link) → slice_get links place ≡ Some link → Has place link → head_of link ≡ head → from ≤ place
        → (30258 ≤ node) × (node ≤ 30258 + place)

  module _ (head : ℕ) (head_low : head < 30258) where
    abbrev after : ℕ → ℕ
    after node = get_or rings.next node 0

    not_past : (node place : ℕ) (link : Link) → IsLinked links Has node → head_at links node ≡ head
        → slice_get links place ≡ Some link → Has place link → head_of link ≡ head → node < 30258 + place
        → (30258 ≤ after node) × (after node ≤ 30258 + place)
    not_past node place link linked in_ring there has e less = (
      ⊎_elim (λ low. absurd (never (inl low))) (λ le. le) (cases_lt (after node) 30258),
      ⊎_elim (λ before. absurd (never (inr before))) (λ le. le) (cases_lt (30258 + place) (after node)),
    )
      where
        never : (after node < 30258) ⊎ (30258 + place < after node) → ⊥
        never = none_past links Has rings hold head head_low node (30258 + place) linked in_ring
            (inr (place, (link, (refl, (there, has))))) (head_at-link links place link there ∙ e) less

    reach-start : Reaches head (after head) 0
    reach-start = record {
      linked = hold.rings_ok.next_linked head (inl head_low);
      in_ring = hold.rings_ok.same_head head (inl head_low) ∙ head_at-low links head head_low;
      not_below = λ le. omega (arith, le);
      first = λ place link there has e le.
          not_past head place link (inl head_low) (head_at-low links head head_low) there has e (omega (arith, head_low));
    }

    reach-on : (node from : ℕ) → Reaches head node from → 30258 ≤ node → Reaches head (after node) (node - 30258 + 1)
    reach-on node from r high = record {
      linked = hold.rings_ok.next_linked node r.linked;
      in_ring = hold.rings_ok.same_head node r.linked ∙ r.in_ring;
      not_below = λ le. ⊎_elim (λ low. absurd (omega (arith, low, le))) (λ up. omega (arith, up, high))
          (goes_up links Has rings hold head head_low node r.linked r.in_ring);
      first = λ place link there has e le. not_past node place link r.linked r.in_ring there has e (omega (arith, le, high));
    }

    reach-later : (node from more : ℕ) → Reaches head node from → from ≤ more → (30258 ≤ node → 30258 + more ≤ node)
        → Reaches head node more
    reach-later node from more r le not_below = record {
      linked = r.linked;
      in_ring = r.in_ring;
      not_below = not_below;
      first = λ place link there has e more_le. r.first place link there has e (omega (arith, le, more_le));
    }

  node-in : (head node : ℕ) → IsLinked links Has node → head_at links node ≡ head → 30258 ≤ node
      → (link : Link) × ((slice_get links (node - 30258) ≡ Some link) × (Has (node - 30258) link × (head_of link ≡ head)))
  node-in head node (inl low) in_ring high = absurd (omega (arith, low, high))
  node-in head node (inr w) in_ring high =
      let place : w.0 ≡ node - 30258 = omega (arith, w.1.1.0) in
      let P : ℕ → Type 0 = λ n. Has n w.1.0 in (
        w.1.0,
        (
          ap (λ n. slice_get links n) (sym place)
              ∙ w.1.1.1.0,
          (subst P place w.1.1.1.1, sym (head_at-link links w.0 w.1.0 w.1.1.1.0) ∙ (ap (head_at links) (sym w.1.1.0) ∙ in_ring)),
        ),
      )

  module _ (one other : ℕ) (one_low : one < 30258) (other_low : other < 30258) (differ : one ≢ other) where
    apart : (node : ℕ) → head_at links node ≡ one → head_at links node ≡ other → ⊥
    apart node e f = differ (sym e ∙ f)

    step : (left full semi from : ℕ)
        → ((full semi from : ℕ) → length links ≤ left + from → Reaches one full from → Reaches other semi from
        → AreAllFrom (IsInEither links Has one other) from (pairs_from rings.next left full semi))
        → length links ≤ suc left + from → Reaches one full from → Reaches other semi from → (lower : Option Kind)
        → lower_of full semi ≡ lower
        → AreAllFrom (IsInEither links Has one other) from
        (from_lower lower (full - 30258) (pairs_from rings.next left (get_or rings.next full 0) semi) (semi - 30258)
        (pairs_from rings.next left full (get_or rings.next semi 0)))
    step left full semi from rest few r s None e = λ n le w. ⊎_elim
        (λ in_one. let low = lower-none full semi e in absurd (omega (arith, (r.first n w.0 w.1.0 w.1.1.0 in_one le).0, low.0)))
        (λ in_other. let low = lower-none full semi e in absurd (omega (arith, (s.first n w.0 w.1.0 w.1.1.0 in_other le).0, low.1)))
        w.1.1.1
    step left full semi from rest few r s (Some Full) e =
        let t = lower-full full semi e in
        let here = node-in one full r.linked r.in_ring t.0 in
        let low : 30258 + from ≤ full = r.not_below t.0 in (
          omega (arith, low),
          (
            (here.0, (here.1.0, (here.1.1.0, inl here.1.1.1))),
            (
              (λ n le less w. ⊎_elim
                  (λ in_one. absurd (omega (arith, (r.first n w.0 w.1.0 w.1.1.0 in_one le).1, less, low)))
                  (λ in_other. let k = s.first n w.0 w.1.0 w.1.1.0 in_other le in
                  ⊎_elim (λ head. absurd (omega (arith, head, k.0))) (λ up. absurd (omega (arith, up, k.1, less, low))) t.1)
                  w.1.1.1),
              rest (get_or rings.next full 0) semi (full - 30258 + 1) (omega (arith, few, low))
                  (reach-on one one_low full from r t.0)
                  (reach-later other other_low semi from (full - 30258 + 1) s (omega (arith, low))
                  (λ high. ⊎_elim (λ head. absurd (omega (arith, head, high))) (λ up. omega (arith, up, low)) t.1)),
            ),
          ),
        )
    step left full semi from rest few r s (Some Semi) e =
        let t = lower-semi full semi e in
        let here = node-in other semi s.linked s.in_ring t.0 in
        let low : 30258 + from ≤ semi = s.not_below t.0 in
        let strict : (30258 ≤ full → semi < full) = λ high. ⊎_elim (λ head. absurd (omega (arith, head, high))) (λ le. ⊎_elim
        (λ same. absurd (apart full r.in_ring (ap (head_at links) (sym same) ∙ s.in_ring)))
        (λ ne. omega (arith, le, ne)) (cases_eq semi full)) t.1 in (
          omega (arith, low),
          (
            (here.0, (here.1.0, (here.1.1.0, inr here.1.1.1))),
            (
              (λ n le less w. ⊎_elim
                  (λ in_one. let k = r.first n w.0 w.1.0 w.1.1.0 in_one le in absurd (omega (arith, strict k.0, k.1, less, low)))
                  (λ in_other. absurd (omega (arith, (s.first n w.0 w.1.0 w.1.1.0 in_other le).1, less, low)))
                  w.1.1.1),
              rest full (get_or rings.next semi 0) (semi - 30258 + 1) (omega (arith, few, low))
                  (reach-later one one_low full from (semi - 30258 + 1) r (omega (arith, low)) (λ high. omega (arith, strict high, low)))
                  (reach-on other other_low semi from s t.0),
            ),
          ),
        )

    pairs-are : (left full semi from : ℕ) → length links ≤ left + from → Reaches one full from → Reaches other semi from
        → AreAllFrom (IsInEither links Has one other) from (pairs_from rings.next left full semi)
    pairs-are zero full semi from few r s =
        rw (pairs-none rings.next 0 full semi refl) (λ n le w. absurd (omega (arith, slice_get_within links n w.0 w.1.0, few, le)))
    pairs-are (suc left) full semi from few r s =
        rw (pairs-step rings.next left full semi (lower_of full semi) refl)
        (step left full semi from (pairs-are left) few r s (lower_of full semi) refl)

    pairs-start : AreAllFrom (IsInEither links Has one other) 0
        (pairs_from rings.next (length links) (get_or rings.next one 0) (get_or rings.next other 0))
    pairs-start = pairs-are (length links) _ _ 0 (omega arith) (reach-start one one_low) (reach-start other other_low)

-- ---- the links of two ends

module _ (set : Standing) (right : IsRight set.player set.present) (a b low high : Vertex) (order : AreLowAndHigh a b low high)
    (low_some : IsSomeVertex low) (high_some : IsSomeVertex high) where
  abbrev IsInRings : ℕ → Type 0
  IsInRings = IsInEither set.present.links (IsLiveThere set.present.board set.player) (head_for Full low high) (head_for Semi low high)

  pair_to : (place : ℕ) → IsInRings place → IsLivePair set a b place
  pair_to place w =
      let same : (kind : Kind) → head_of w.0 ≡ head_for kind low high → HasEnds w.0 a b = λ kind e.
      let s = live-same set.present.board right.is_board set.player w.0 kind low high w.1.1.0 low_some high_some e in
      ends-to a b low high order w.0 (s.1, s.2) in
      (w.0, (w.1.0, (w.1.1.0, ⊎_elim (same Full) (same Semi) w.1.1.1)))

  heads_from : (kind : Kind) (link : Link) → link.kind ≡ kind → (link.a ≡ low) × (link.b ≡ high) → head_of link ≡ head_for kind low high
  heads_from kind link e f =
      ap (λ (k : Kind). head_for k link.a link.b) e
      ∙ (ap (λ (v : Vertex). head_for kind v link.b) f.0 ∙ ap (λ (v : Vertex). head_for kind low v) f.1)

  either_kind : (kind : Kind) → (kind ≡ Full) ⊎ (kind ≡ Semi)
  either_kind Full = inl refl
  either_kind Semi = inr refl

  pair_from : (place : ℕ) → IsLivePair set a b place → IsInRings place
  pair_from place w =
      let ends : (w.0.a ≡ low) × (w.0.b ≡ high) =
      ends-from a b low high order w.0 (live-is_link set right place w.0 w.1.0 w.1.1.0).lower_first w.1.1.1 in (
        w.0,
        (
          w.1.0,
          (
            w.1.1.0,
            ⊎_elim (λ e. inl (heads_from Full w.0 e ends)) (λ e. inr (heads_from Semi w.0 e ends))
                (either_kind w.0.kind),
          ),
        ),
      )

  pub live-pairs : (rings : Rings) → RingsHold set.present.links (IsLiveThere set.present.board set.player) rings
      → AreLivePairs set a b (pairs_from rings.next (length set.present.links) (get_or rings.next (head_for Full low high) 0)
      (get_or rings.next (head_for Semi low high) 0))
  live-pairs rings hold =
      let are = pairs-start set.present.links (IsLiveThere set.present.board set.player) rings hold (head_for Full low high)
      (head_for Semi low high)
      (head-small Full low high low_some high_some) (head-small Semi low high low_some high_some)
      (λ e. absurd (omega (arith, e, code-small low low_some, code-small high high_some))) in
      record {
        rising = all-rising IsInRings _ 0 are;
        each = λ k d lt. pair_to _ (all-each IsInRings _ 0 are k d lt);
        all = λ place w. all-contains IsInRings _ 0 place are (omega arith) (pair_from place w);
      }
