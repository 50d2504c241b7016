-- A walk along a ring from its head sees each link of the ring once, in rising order, and ends at the head. What lies
-- between a node and the next one is not in the ring, and the next one is higher or the head.
use Rattle.std.proofs.lemmas.Bool.{false≢true, cases_lt, cases_eq}
use Rattle.std.proofs.lemmas.Bool.Decides.{nat_tests}
use Rattle.std.proofs.lemmas.Option.{same_Some}
use Rattle.std.proofs.Common.{◌≡◌, ℕ, ◌+◌, ◌-◌, ◌<◌, ◌≤◌, Bool, true, false, List, length, get_or, refl, sym, ap, ◌∙◌}
use Rattle.std.proofs.Common.{subst, inl, inr, Some, ◌⊎◌, ⊎_elim, arith, if◌then◌else◌}
use Rattle.std.specs.Prelude.{slice_get, nat_lt}
use Rattle.hx_link.specs.declared.links.Link.{Link}
use Rattle.hx_linkset.specs.declared.limits.TheConstants.{MOST_LINKS}
use Rattle.hx_linkset.specs.Rings.{Rings, IsNotBetween}
use Rattle.hx_linkset.specs.Held.{head_of, head_at, IsLinked, RingsHold}
use Rattle.hx_linkset.proofs.PassLaws.{head_at-link, head_at-low, linked-small}

-- how far a walk may still go: not at all from a head
unfoldable pub left_from : ℕ → ℕ
left_from node = if nat_lt node 30258 then 0 else 65536 - node

left-choice : (b : Bool) (x y : ℕ) → x < y → 0 < y → (if b then 0 else x) < y
left-choice true x y less some = some
left-choice false x y less some = less

left-other : (b : Bool) (x : ℕ) → b ≡ false → (if b then 0 else x) ≡ x
left-other true x e = absurd (false≢true (sym e))
left-other false x e = refl

left-head : (b : Bool) (x : ℕ) → b ≡ true → (if b then 0 else x) ≡ 0
left-head true x e = refl
left-head false x e = absurd (false≢true e)

pub left_from-falls : (node after : ℕ) → 30258 ≤ node → node < 65536 → (after < 30258) ⊎ (node < after) → left_from after < left_from node
unfolding left_from
left_from-falls node after low high (inl head) =
    let here = left-other (nat_lt node 30258) (65536 - node) (grind (arith, nat_tests)) in
    let there = left-head (nat_lt after 30258) (65536 - after) (grind (arith, nat_tests)) in
    rw (here, there) (omega arith)
left_from-falls node after low high (inr more) =
    let here = left-other (nat_lt node 30258) (65536 - node) (grind (arith, nat_tests)) in
    rw here (left-choice (nat_lt after 30258) (65536 - after) (65536 - node) (omega arith) (omega arith))

-- the walk has come to this node, and no link of the ring that it has passed is as wanted
pub record WalkedTo (links : List Link) (Has : ℕ → Link → Type 0) (Wanted : Link → Type 0) (head node : ℕ) : Type 0 where
  pub linked : IsLinked links Has node
  pub in_ring : head_at links node ≡ head
  pub passed : (place : ℕ) (link : Link) → slice_get links place ≡ Some link → Has place link → head_of link ≡ head
      → (node < 30258) ⊎ (30258 + place < node) → Wanted link → ⊥

-- the link of a node that is no head
pub record LinkAt (links : List Link) (Has : ℕ → Link → Type 0) (head node : ℕ) : Type 0 where
  pub place : ℕ
  pub link : Link
  pub node_is : node ≡ 30258 + place
  pub there : slice_get links place ≡ Some link
  pub has : Has place link
  pub in_ring : head_of link ≡ head

module _ (links : List Link) (Has : ℕ → Link → Type 0) (rings : Rings) (hold : RingsHold links Has rings) (head : ℕ)
    (head_low : head < 30258) where
  abbrev after : ℕ → ℕ
  after node = get_or rings.next node 0

  place_linked : (place : ℕ) (link : Link) → slice_get links place ≡ Some link → Has place link → IsLinked links Has (30258 + place)
  place_linked place link there has = inr (place, (link, (refl, (there, has))))

  -- what is above a node of the ring is not before the next one
  pub none_past : (node other : ℕ) → IsLinked links Has node → head_at links node ≡ head → IsLinked links Has other
      → head_at links other ≡ head → node < other → (after node < 30258) ⊎ (other < after node) → ⊥
  none_past node other linked in_ring linked' in_ring' less before =
      let clear : IsNotBetween node other (after node) = hold.rings_ok.clear node other linked linked' (in_ring' ∙ sym in_ring) in
      ⊎_elim
      (λ up. ⊎_elim (λ le. absurd (omega (arith, le, less))) (λ le. by_case before le up) (clear.0 up))
      (λ down. let both = clear.1 down in absurd (omega (arith, both.1, less)))
      (cases_lt node (after node))
    where
      at_head : after node < 30258 → after node ≤ node
      at_head low =
          let ring : head_at links (after node) ≡ head = hold.rings_ok.same_head node linked ∙ in_ring in
          let own : head_at links (after node) ≡ after node = head_at-low links (after node) low in
          let above : head_at links node ≤ node = hold.rings_ok.above node linked in
          omega (arith, ring, own, above, in_ring)

      by_case : (after node < 30258) ⊎ (other < after node) → after node ≤ other → node < after node → ⊥
      by_case (inl low) le up = absurd (omega (arith, at_head low, up))
      by_case (inr lt) le up = absurd (omega (arith, le, lt))

  -- the next node is a head or higher
  pub goes_up : (node : ℕ) → IsLinked links Has node → head_at links node ≡ head → (after node < 30258) ⊎ (node < after node)
  goes_up node linked in_ring = ⊎_elim (λ up. inr up) (λ down. inl (low down)) (cases_lt node (after node))
    where
      low : after node ≤ node → after node < 30258
      low down =
          let own : head_at links head ≡ head = head_at-low links head head_low in
          let clear : IsNotBetween node head (after node) = hold.rings_ok.clear node head linked (inl head_low) (own ∙ sym in_ring) in
          let both = clear.1 down in omega (arith, both.0, head_low)

  module _ (Wanted : Link → Type 0) where
    pub walk-start : WalkedTo links Has Wanted head (after head)
    walk-start = record {
      linked = hold.rings_ok.next_linked head (inl head_low);
      in_ring = hold.rings_ok.same_head head (inl head_low) ∙ head_at-low links head head_low;
      passed = λ place link there has e before wanted. none_past head (30258 + place) (inl head_low) (head_at-low links head head_low)
          (place_linked place link there has) (head_at-link links place link there ∙ e) (omega (arith, head_low)) before;
    }

    module _ (node : ℕ) (walked : WalkedTo links Has Wanted head node) where
      pub walk-in_list : node < 30258 + length links
      walk-in_list = linked-small links Has node walked.linked

      pub walk-link : 30258 ≤ node → LinkAt links Has head node
      walk-link low = by_case walked.linked
        where
          by_case : IsLinked links Has node → LinkAt links Has head node
          by_case (inl less) = absurd (omega (arith, less, low))
          by_case (inr w) = record {
            place = w.0;
            link = w.1.0;
            node_is = w.1.1.0;
            there = w.1.1.1.0;
            has = w.1.1.1.1;
            in_ring = sym (head_at-link links w.0 w.1.0 w.1.1.1.0) ∙ (ap (head_at links) (sym w.1.1.0) ∙ walked.in_ring);
          }

      pub walk-on : (low : 30258 ≤ node) → (Wanted (walk-link low).link → ⊥) → WalkedTo links Has Wanted head (after node)
      walk-on low unwanted = record {
        linked = hold.rings_ok.next_linked node walked.linked;
        in_ring = hold.rings_ok.same_head node walked.linked ∙ walked.in_ring;
        passed = λ place link there has e before wanted. ⊎_elim
            (λ less. walked.passed place link there has e (inr less) wanted)
            (λ le. ⊎_elim (λ same. here place link there same wanted) (λ other. none_past node (30258 + place) walked.linked walked.in_ring
            (place_linked place link there has) (head_at-link links place link there ∙ e) (omega (arith, le, other)) before)
            (cases_eq (30258 + place) node))
            (cases_lt (30258 + place) node);
      }
        where
          here : (place : ℕ) (link : Link) → slice_get links place ≡ Some link → 30258 + place ≡ node → Wanted link → ⊥
          here place link there same wanted =
              let at : LinkAt links Has head node = walk-link low in
              let places : place ≡ at.place = omega (arith, same, at.node_is) in
              let one : link ≡ at.link = same_Some link at.link (sym there ∙ (ap (λ n. slice_get links n) places ∙ at.there)) in
              let P : Link → Type 0 = λ l. Wanted l in
              unwanted (subst P one wanted)

      pub walk-falls : 30258 ≤ node → length links ≤ MOST_LINKS → left_from (after node) < left_from node
      walk-falls low few = left_from-falls node (after node) low (omega (arith, walk-in_list, few))
          (goes_up node walked.linked walked.in_ring)
