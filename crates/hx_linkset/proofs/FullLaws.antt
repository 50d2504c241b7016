-- The live ones of the list of a vertex are exactly the live Full links that end there, in rising order.
--
-- The plan: of the links from a place on, the entries that are live are exactly those of the live Full links at the
-- vertex whose place is not below (`AreFullFrom`). One link before these brings one entry in front of them or none, and
-- is the only link at its place.
use Rattle.std.proofs.Common.{◌≡◌, ℕ, zero, suc, ◌+◌, ◌<◌, ◌≤◌, ◌-◌, Bool, true, false, cond, List, [], ◌∷◌, ◌++◌, map, refl, sym, ap, ◌∙◌}
use Rattle.std.proofs.Common.{subst, inl, inr, Some, ◌⊎◌, ⊎_elim, ◌↔◌, arith, eq-eqb, eqb-true}
use Rattle.std.proofs.lemmas.Bool.{cases_lt, cases_eq, false≢true, and_from}
use Rattle.std.proofs.lemmas.List.Elements.{filter-append}
use Rattle.std.proofs.lemmas.Option.{same_Some}
use Rattle.std.specs.Prelude.{All, Contains, slice_get, nat_eq}
use Rattle.hx_board.specs.declared.vertices.Vertex.{Vertex}
use Rattle.hx_board.specs.Sets.{has, intersection}
use Rattle.hx_board.specs.Positions.{IsEmpty}
use Rattle.hx_board.specs.VertexSets.{code_of, IsSomeVertex}
use Rattle.hx_board.proofs.SetLaws.{first_of_both, second_of_both, intersection-is_subset, is_subset-intersection}
use Rattle.hx_board.proofs.VertexSetLaws.{code-same}
use Rattle.hx_link.specs.declared.links.Kind.{Kind}
use Rattle.hx_link.specs.declared.links.Kind.TheVariants.{Full, Semi}
use Rattle.hx_link.specs.declared.links.Link.{Link}
use Rattle.hx_link.specs.Steps.{IsEnd, HasEnds}
use Rattle.hx_linkset.specs.declared.fulls.FullLink.{FullLink}
use Rattle.hx_linkset.specs.States.{Standing, IsLive}
use Rattle.hx_linkset.specs.Fulls.{IsFullAt, AreFullAt, seen_by, seen_from, fulls_from, fulls_of, AreFullLists, is_live_from, live_from}
use Rattle.hx_linkset.specs.Fulls.{live_at}
use Rattle.hx_linkset.proofs.RisingLists.{AreAllFrom, all-rising}

-- ---- all that have a property, in rising order of their indices

-- these are all entries from an index on that have a property, in rising order of their indices
abbrev AreFullFrom : (FullLink → Type 0) → ℕ → List FullLink → Type 0
AreFullFrom Has from [] = (full : FullLink) → from ≤ full.index → Has full → ⊥
AreFullFrom Has from (first ∷ rest) = (from ≤ first.index)
    × (Has first × (((full : FullLink) → from ≤ full.index → full.index < first.index → Has full → ⊥)
    × AreFullFrom Has (first.index + 1) rest))

module _ (Has : FullLink → Type 0) (one_at : (full other : FullLink) → full.index ≡ other.index → Has full → Has other → full ≡ other) where
  -- an entry with this index has the property
  abbrev HasAt : ℕ → Type 0
  HasAt n = (full : FullLink) × ((full.index ≡ n) × Has full)

  indices-from : (fulls : List FullLink) (from : ℕ) → AreFullFrom Has from fulls
      → AreAllFrom HasAt from (map (λ (full : FullLink). full.index) fulls)
  indices-from [] from h = λ n le w. h w.0 (omega (arith, w.1.0, le)) w.1.1
  indices-from (first ∷ rest) from h = (
    h.0,
    (
      (first, (refl, h.1.0)),
      (
        (λ n le less w. h.1.1.0 w.0 (omega (arith, w.1.0, le)) (omega (arith, w.1.0, less)) w.1.1),
        indices-from rest (first.index + 1) h.1.1.1,
      ),
    ),
  )

  full-each : (fulls : List FullLink) (from : ℕ) → AreFullFrom Has from fulls → All Has fulls
  full-each [] from h k d lt = absurd (omega arith)
  full-each (first ∷ rest) from h zero d lt = h.1.0
  full-each (first ∷ rest) from h (suc k) d lt = full-each rest (first.index + 1) h.1.1.1 k d (omega arith)

  full-contains : (fulls : List FullLink) (from : ℕ) (full : FullLink) → AreFullFrom Has from fulls → from ≤ full.index → Has full
      → Contains fulls full
  full-contains [] from full h le has = absurd (h full le has)
  full-contains (first ∷ rest) from full h le has = ⊎_elim
      (λ less. absurd (h.1.1.0 full le less has))
      (λ more. ⊎_elim
      (λ e. (0, omega arith, sym (one_at full first e has h.1.0)))
      (λ other. let w = full-contains rest (first.index + 1) full h.1.1.1 (omega (arith, more, other)) has in
      (suc w.0, omega (arith, w.1), w.2))
      (cases_eq full.index first.index))
      (cases_lt full.index first.index)

  -- where none has the index before
  full-later : (fulls : List FullLink) (from : ℕ) → ((full : FullLink) → full.index ≡ from → Has full → ⊥)
      → AreFullFrom Has (from + 1) fulls → AreFullFrom Has from fulls
  full-later [] from none h = λ full le has.
      ⊎_elim (λ e. none full e has) (λ ne. h full (omega (arith, le, ne)) has) (cases_eq full.index from)
  full-later (first ∷ rest) from none h = (
    omega (arith, h.0),
    (
      h.1.0,
      (
        (λ full le less has. ⊎_elim (λ e. none full e has) (λ ne. h.1.1.0 full (omega (arith, le, ne)) less has)
            (cases_eq full.index from)),
        h.1.1.1,
      ),
    ),
  )

same_full : (full other : FullLink) → full.index ≡ other.index → full.to ≡ other.to → full.carrier ≡ other.carrier → full ≡ other
same_full full other = same_fields full.index other.index full.to other.to full.carrier other.carrier
  where
    same_fields : (i i' : ℕ) (v v' : Vertex) (c c' : ℕ) → i ≡ i' → v ≡ v' → c ≡ c'
        → (let f : FullLink = record { index = i; to = v; carrier = c } in f) ≡ record { index = i'; to = v'; carrier = c' }
    same_fields i i' v v' c c' e f g = cc

module _ (set : Standing) (empties ends : ℕ) (empties_are : (cell : ℕ) → (has empties cell ≡ true) ↔ IsEmpty set.present.board cell)
    (ends_are : (vertex : Vertex) → IsSomeVertex vertex → (has ends (code_of vertex) ≡ true) ↔ IsEnd set.present.board set.player vertex)
    (vertex : Vertex) (some : IsSomeVertex vertex) where
  abbrev MayEnd : Vertex → Type 0
  MayEnd v = IsEnd set.present.board set.player v

  other_end : (link : Link) (to to' : Vertex) → HasEnds link vertex to → HasEnds link vertex to' → to ≡ to'
  other_end link to to' (inl w) (inl w') = sym w.1 ∙ w'.1
  other_end link to to' (inl w) (inr w') = sym w.1 ∙ (w'.1 ∙ (sym w.0 ∙ w'.0))
  other_end link to to' (inr w) (inl w') = sym w.0 ∙ (w'.0 ∙ (sym w.1 ∙ w'.1))
  other_end link to to' (inr w) (inr w') = sym w.0 ∙ w'.0

  one_at_index : (full other : FullLink) → full.index ≡ other.index → IsFullAt set vertex full → IsFullAt set vertex other → full ≡ other
  one_at_index full other e h k =
      let same : h.link ≡ k.link = same_Some h.link k.link (sym h.there ∙ (ap (λ (n : ℕ). slice_get set.present.links n) e ∙ k.there)) in
      let P : Link → Type 0 = λ link. HasEnds link vertex other.to in
      same_full full other e (other_end h.link full.to other.to h.ends (subst P (sym same) k.ends))
      (h.carrier_is ∙ (ap (λ (link : Link). link.carrier) same ∙ sym k.carrier_is))

  vertex_end : (full : FullLink) → IsFullAt set vertex full → MayEnd vertex
  vertex_end full h = by_ends h.ends
    where
      by_ends : HasEnds h.link vertex full.to → MayEnd vertex
      by_ends (inl w) = subst MayEnd w.0 h.live.a_end
      by_ends (inr w) = subst MayEnd w.1 h.live.b_end

  -- ---- one link

  module _ (place : ℕ) (link : Link) (link_some : link.kind ≡ Full → IsSomeVertex link.a × IsSomeVertex link.b) where
    -- the link is Full, and this is how it is seen from the vertex
    record IsSeen (full : FullLink) : Type 0 where
      index_is : full.index ≡ place
      kind_is : link.kind ≡ Full
      of_ends : HasEnds link vertex full.to
      carrier_is : full.carrier ≡ link.carrier

    seen-no : link.kind ≡ Full → nat_eq (code_of link.a) (code_of vertex) ≡ false → nat_eq (code_of link.b) (code_of vertex) ≡ false
        → (to : Vertex) → HasEnds link vertex to → ⊥
    seen-no full e f to (inl w) = false≢true (sym e ∙ eq-eqb (code_of link.a) (code_of vertex) (ap code_of w.0))
    seen-no full e f to (inr w) = false≢true (sym f ∙ eq-eqb (code_of link.b) (code_of vertex) (ap code_of w.1))

    seen_cases : (kind : Kind) (p q : Bool) → link.kind ≡ kind → nat_eq (code_of link.a) (code_of vertex) ≡ p
        → nat_eq (code_of link.b) (code_of vertex) ≡ q
        → ((seen_by kind p q place link ≡ []) × ((full : FullLink) → IsSeen full → ⊥))
        ⊎ ((full : FullLink) × ((seen_by kind p q place link ≡ full ∷ []) × IsSeen full))
    seen_cases Semi p q k e f = inl (refl, λ full seen. let no : Semi ≡ Full = sym k ∙ seen.kind_is in cc)
    seen_cases Full true q k e f =
        let same : link.a ≡ vertex = code-same link.a vertex (link_some k).0 some (eqb-true (code_of link.a) (code_of vertex) e) in
        inr (
          record { index = place; to = link.b; carrier = link.carrier },
          (refl, record { index_is = refl; kind_is = k; of_ends = inl (same, refl); carrier_is = refl }),
        )
    seen_cases Full false true k e f =
        let same : link.b ≡ vertex = code-same link.b vertex (link_some k).1 some (eqb-true (code_of link.b) (code_of vertex) f) in
        inr (
          record { index = place; to = link.a; carrier = link.carrier },
          (refl, record { index_is = refl; kind_is = k; of_ends = inr (refl, same); carrier_is = refl }),
        )
    seen_cases Full false false k e f = inl (refl, λ full seen. seen-no k e f full.to seen.of_ends)

    module _ (full : FullLink) (seen : IsSeen full) where
      to_some : IsSomeVertex full.to
      to_some = by_ends seen.of_ends
        where
          by_ends : HasEnds link vertex full.to → IsSomeVertex full.to
          by_ends (inl w) = subst IsSomeVertex w.1 (link_some seen.kind_is).1
          by_ends (inr w) = subst IsSomeVertex w.0 (link_some seen.kind_is).0

      live_by : HasEnds link vertex full.to → MayEnd vertex → MayEnd full.to → MayEnd link.a × MayEnd link.b
      live_by (inl w) from to = (subst MayEnd (sym w.0) from, subst MayEnd (sym w.1) to)
      live_by (inr w) from to = (subst MayEnd (sym w.0) to, subst MayEnd (sym w.1) from)

      to_end : HasEnds link vertex full.to → IsLive set.present.board set.player link → MayEnd full.to
      to_end (inl w) live = subst MayEnd w.1 live.b_end
      to_end (inr w) live = subst MayEnd w.0 live.a_end

      live_if : MayEnd vertex → is_live_from empties ends full ≡ true → IsLive set.present.board set.player link
      live_if from test =
          let inside = intersection-is_subset full.carrier empties (eqb-true _ _ (first_of_both _ (has ends (code_of full.to)) test)) in
          let both = live_by seen.of_ends from
          ((ends_are full.to to_some).0 (second_of_both (nat_eq (intersection full.carrier empties) full.carrier) _ test)) in
          record {
            empty = λ cell h. (empties_are cell).0 (inside cell (ap (λ (carrier : ℕ). has carrier cell) seen.carrier_is ∙ h));
            a_end = both.0;
            b_end = both.1;
          }

      live_only_if : IsLive set.present.board set.player link → is_live_from empties ends full ≡ true
      live_only_if live = and_from _ _
          (eq-eqb _ _ (is_subset-intersection full.carrier empties
          (λ cell h. (empties_are cell).1 (live.empty cell (ap (λ (carrier : ℕ). has carrier cell) (sym seen.carrier_is) ∙ h)))))
          ((ends_are full.to to_some).1 (to_end seen.of_ends live))

    -- what is live of the link brings no entry, or one
    abbrev BringsNone : List FullLink → Type 0
    BringsNone fulls = (fulls ≡ []) × ((full : FullLink) → full.index ≡ place → IsFullAt set vertex full → ⊥)

    abbrev BringsOne : List FullLink → Type 0
    BringsOne fulls = (full : FullLink) × ((fulls ≡ full ∷ []) × ((full.index ≡ place) × IsFullAt set vertex full))

    module _ (from : MayEnd vertex) (there : slice_get set.present.links place ≡ Some link) where
      -- the link at this index is the one that is seen
      seen_at : (full : FullLink) → full.index ≡ place → IsFullAt set vertex full → IsSeen full × IsLive set.present.board set.player link
      seen_at full e h =
          let same : h.link ≡ link = same_Some h.link link (sym h.there ∙ (ap (λ (n : ℕ). slice_get set.present.links n) e ∙ there)) in
          let P : Link → Type 0 = λ l. HasEnds l vertex full.to in
          let Q : Link → Type 0 = λ l. IsLive set.present.board set.player l in (
            record {
              index_is = e;
              kind_is = ap (λ (l : Link). l.kind) (sym same) ∙ h.kind_is;
              of_ends = subst P same h.ends;
              carrier_is =
                  h.carrier_is ∙ ap (λ (l : Link). l.carrier) same;
            },
            subst Q same h.live,
          )

      brings_seen : (full : FullLink) → IsSeen full → (b : Bool) → is_live_from empties ends full ≡ b → BringsNone (cond b (full ∷ []) [])
          ⊎ BringsOne (cond b (full ∷ []) [])
      brings_seen full seen true test = inr (
        full,
        (
          refl,
          (
            seen.index_is,
            record {
              link = link;
              there = ap (λ (n : ℕ). slice_get set.present.links n) seen.index_is ∙ there;
              live = live_if full seen from test;
              kind_is = seen.kind_is;
              ends = seen.of_ends;
              carrier_is = seen.carrier_is;
            },
          ),
        ),
      )
      brings_seen full seen false test = inl (
        refl,
        λ other e h.
            let w = seen_at other e h in
            false≢true (sym test ∙ live_only_if full seen w.1),
      )

      brings : BringsNone (live_from empties ends (seen_from (code_of vertex) place link))
          ⊎ BringsOne (live_from empties ends (seen_from (code_of vertex) place link))
      brings =
          let P : List FullLink → Type 0 = λ fulls. BringsNone (live_from empties ends fulls) ⊎ BringsOne (live_from empties ends fulls) in
          ⊎_elim
          (λ none. subst P (sym none.0) (inl (refl, λ full e h. none.1 full (seen_at full e h).0)))
          (λ one. subst P (sym one.1.0) (brings_seen one.0 one.1.1 (is_live_from empties ends one.0) refl))
          (seen_cases link.kind _ _ refl refl refl)

  -- ---- all links

  module _ (link_some : (place : ℕ) (link : Link) → slice_get set.present.links place ≡ Some link → link.kind ≡ Full → IsSomeVertex link.a
      × IsSomeVertex link.b) (from : MayEnd vertex) where
    fulls-from : (links : List Link) (place : ℕ) → ((k : ℕ) → slice_get set.present.links (place + k) ≡ slice_get links k)
        → AreFullFrom (IsFullAt set vertex) place (live_from empties ends (fulls_from (code_of vertex) place links))
    fulls-from [] place rest_is = λ full le h.
        let at : full.index ≡ place + (full.index - place) = omega arith in
        let no : slice_get [] (full.index - place) ≡ Some h.link =
        sym (ap (λ (n : ℕ). slice_get set.present.links n) at ∙ rest_is (full.index - place)) ∙ h.there in
        cc
    fulls-from (link ∷ links) place rest_is =
        let next : (k : ℕ) → (place + 1) + k ≡ place + suc k = λ k. omega arith in
        let none_more : place ≡ place + 0 = omega arith in
        let there : slice_get set.present.links place ≡ Some link = ap (λ (n : ℕ). slice_get set.present.links n) none_more ∙ rest_is 0 in
        let rest = live_from empties ends (fulls_from (code_of vertex) (place + 1) links) in
        let later : AreFullFrom (IsFullAt set vertex) (place + 1) rest =
        fulls-from links (place + 1) (λ k. ap (λ (n : ℕ). slice_get set.present.links n) (next k) ∙ rest_is (suc k)) in
        let parts = filter-append (is_live_from empties ends) (seen_from (code_of vertex) place link)
        (fulls_from (code_of vertex) (place + 1) links) in
        let P : List FullLink → Type 0 = λ fulls. AreFullFrom (IsFullAt set vertex) place fulls in
        let Q : ℕ → Type 0 = λ n. AreFullFrom (IsFullAt set vertex) (n + 1) rest in
        ⊎_elim
        (λ none. subst P (sym (parts ∙ ap (λ (fulls : List FullLink). fulls ++ rest) none.0))
        (full-later (IsFullAt set vertex) one_at_index rest place none.1 later))
        (λ one. subst P (sym (parts ∙ ap (λ (fulls : List FullLink). fulls ++ rest) one.1.0)) (
          omega (arith, one.1.1.0),
          (one.1.1.1, ((λ full le less h. absurd (omega (arith, le, less, one.1.1.0))), subst Q (sym one.1.1.0) later)),
        ))
        (brings place link (link_some place link there) from there)

    full-open : AreFullAt set vertex (live_from empties ends (fulls_of set.present.links vertex))
    full-open =
        let same : (k : ℕ) → 0 + k ≡ k = λ k. omega arith in
        let all : AreFullFrom (IsFullAt set vertex) 0 (live_from empties ends (fulls_of set.present.links vertex)) =
        fulls-from set.present.links 0 (λ k. ap (λ (n : ℕ). slice_get set.present.links n) (same k)) in
        record {
          rising = all-rising (HasAt (IsFullAt set vertex) one_at_index) _ 0 (indices-from (IsFullAt set vertex) one_at_index _ 0 all);
          each = full-each (IsFullAt set vertex) one_at_index _ 0 all;
          all = λ full h. full-contains (IsFullAt set vertex) one_at_index _ 0 full all (omega arith) h;
        }

  full-closed : has ends (code_of vertex) ≡ false → AreFullAt set vertex []
  full-closed closed = record {
    rising = λ k lt. absurd (omega arith);
    each = λ k d lt. absurd (omega arith);
    all = λ full h. absurd (false≢true (sym closed ∙ (ends_are vertex some).1 (vertex_end full h)));
  }

  pub full-at : (lists : List (List FullLink)) → AreFullLists set.present.links lists
      → AreFullAt set vertex (live_at empties ends vertex (fulls_of set.present.links vertex))
  full-at lists are = by_test (has ends (code_of vertex)) refl
    where
      by_test : (b : Bool) → has ends (code_of vertex) ≡ b
          → AreFullAt set vertex (cond b (live_from empties ends (fulls_of set.present.links vertex)) [])
      by_test true is = full-open are.some ((ends_are vertex some).0 is)
      by_test false is = full-closed is
