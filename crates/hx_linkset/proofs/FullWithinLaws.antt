-- Of the live Full links at a vertex those that some cells and vertices hold.
--
-- The plan: to hold them is a test of each entry, so a list of them is the list of all, filtered; and to be live and
-- held is to be live on the empty cells and open ends that are held.
use Rattle.std.proofs.Common.{◌≡◌, ℕ, zero, suc, ◌+◌, ◌<◌, Bool, true, false, ◌&&◌, cond, List, [], ◌∷◌, map, length, get_or, refl, sym, ap}
use Rattle.std.proofs.Common.{◌∙◌, subst, arith, eq-eqb, eqb-true}
use Rattle.std.proofs.lemmas.Bool.{cond_both, and_from}
use Rattle.std.proofs.lemmas.List.Elements.{All-filter, filter_agree, filter_passes, All-cons, All-head, All-tail}
use Rattle.std.proofs.lemmas.List.Kept.{AllPairs-cons, AllPairs-from_increasing}
use Rattle.std.specs.Prelude.{All, Contains, filter, nat_eq}
use Rattle.std.specs.List.{AllPairs}
use Rattle.std.specs.List.Sorted.{IsStrictlyIncreasing}
use Rattle.hx_board.specs.declared.vertices.Vertex.{Vertex}
use Rattle.hx_board.specs.Sets.{has, intersection, IsSubset}
use Rattle.hx_board.specs.VertexSets.{code_of}
use Rattle.hx_board.proofs.SetLaws.{same_test, first_of_both, second_of_both, has-intersection_left, has-intersection_right}
use Rattle.hx_board.proofs.SetLaws.{has-intersection_both, intersection-is_subset, is_subset-intersection}
use Rattle.hx_linkset.specs.declared.fulls.FullLink.{FullLink}
use Rattle.hx_linkset.specs.States.{Standing}
use Rattle.hx_linkset.specs.Fulls.{IsFullAt, AreFullAt, AreFullWithin, is_live_from, live_from}

abbrev index_of : FullLink → ℕ
index_of full = full.index

-- ---- a filter of entries

module _ (p : FullLink → Bool) where
  above-filter : (n : ℕ) (fulls : List FullLink) → All (λ (m : ℕ). n < m) (map index_of fulls)
      → All (λ (m : ℕ). n < m) (map index_of (filter p fulls))
  above-filter n [] h = h
  above-filter n (full ∷ fulls) h =
      let Above : List ℕ → Type 0 = λ ms. All (λ (m : ℕ). n < m) ms in
      let rest : Above (map index_of (filter p fulls)) =
      above-filter n fulls (All-tail (λ (m : ℕ). n < m) full.index (map index_of fulls) h) in
      cond_both (p full) (full ∷ filter p fulls) (filter p fulls) (λ kept. Above (map index_of kept))
      (λ _. All-cons (λ (m : ℕ). n < m) full.index (map index_of (filter p fulls))
      (All-head (λ (m : ℕ). n < m) full.index (map index_of fulls) h) rest)
      (λ _. rest)

  pairs-filter : (fulls : List FullLink) → AllPairs (λ (n m : ℕ). n < m) (map index_of fulls)
      → AllPairs (λ (n m : ℕ). n < m) (map index_of (filter p fulls))
  pairs-filter [] h = h
  pairs-filter (full ∷ fulls) h =
      let Rises : List ℕ → Type 0 = λ ms. AllPairs (λ (n m : ℕ). n < m) ms in
      let rest : Rises (map index_of (filter p fulls)) =
      pairs-filter fulls (λ i j d lt within. h (suc i) (suc j) d (omega (arith, lt)) (omega (arith, within))) in
      let head : All (λ (m : ℕ). full.index < m) (map index_of fulls) = λ k d within.
      h zero (suc k) d (omega arith) (omega (arith, within)) in
      cond_both (p full) (full ∷ filter p fulls) (filter p fulls) (λ kept. Rises (map index_of kept))
      (λ _. AllPairs-cons (λ (n m : ℕ). n < m) full.index (map index_of (filter p fulls)) (above-filter full.index fulls head) rest)
      (λ _. rest)

  rising-filter : (fulls : List FullLink) → IsStrictlyIncreasing (map index_of fulls) → IsStrictlyIncreasing (map index_of (filter p fulls))
  rising-filter fulls h k within = pairs-filter fulls (AllPairs-from_increasing (map index_of fulls) h) k (k + 1) 0 (omega arith) within

  contains-filter : (fulls : List FullLink) (full : FullLink) (k : ℕ) → p full ≡ true → k < length fulls → get_or fulls k full ≡ full
      → Contains (filter p fulls) full
  contains-filter [] full k test lt e = absurd (omega arith)
  contains-filter (first ∷ rest) full zero test lt e =
      let Held : Bool → Type 0 = λ b. Contains (cond b (first ∷ filter p rest) (filter p rest)) full in
      subst Held (sym (ap p e ∙ test)) (0, omega arith, e)
  contains-filter (first ∷ rest) full (suc k) test lt e =
      let later = contains-filter rest full k test (omega (arith, lt)) e in
      cond_both (p first) (first ∷ filter p rest) (filter p rest) (λ kept. Contains kept full)
      (λ _. (suc later.0, omega (arith, later.1), later.2))
      (λ _. later)

  module _ (q : FullLink → Bool) where
    filter_filter : (fulls : List FullLink) → filter p (filter q fulls) ≡ filter (λ full. q full && p full) fulls
    filter_filter [] = refl
    filter_filter (full ∷ fulls) = by_test (q full) ∙ ap (λ kept. cond (q full && p full) (full ∷ kept) kept) (filter_filter fulls)
      where
        by_test : (b : Bool) → filter p (cond b (full ∷ filter q fulls) (filter q fulls)) ≡ cond (b && p full)
            (full ∷ filter p (filter q fulls)) (filter p (filter q fulls))
        by_test true = refl
        by_test false = refl

-- ---- one entry

module _ (full : FullLink) where
  inside_if : (cells ends : ℕ) → is_live_from cells ends full ≡ true → IsSubset full.carrier cells
  inside_if cells ends test = intersection-is_subset full.carrier cells (eqb-true _ _ (first_of_both _ (has ends (code_of full.to)) test))

  leads_if : (cells ends : ℕ) → is_live_from cells ends full ≡ true → has ends (code_of full.to) ≡ true
  leads_if cells ends test = second_of_both (nat_eq (intersection full.carrier cells) full.carrier) _ test

  live_if : (cells ends : ℕ) → IsSubset full.carrier cells → has ends (code_of full.to) ≡ true → is_live_from cells ends full ≡ true
  live_if cells ends inside leads = and_from _ _ (eq-eqb _ _ (is_subset-intersection full.carrier cells inside)) leads

  live-both : (empties ends cells to : ℕ)
      → is_live_from (intersection empties cells)
      (intersection ends to) full ≡ (is_live_from empties ends full && is_live_from cells to full)
  live-both empties ends cells to = same_test _ _
      (λ test.
      let inside = inside_if (intersection empties cells) (intersection ends to) test in
      let leads = leads_if (intersection empties cells) (intersection ends to) test in
      and_from _ _
      (live_if empties ends (λ n h. has-intersection_left empties cells n (inside n h))
      (has-intersection_left ends to (code_of full.to) leads))
      (live_if cells to (λ n h. has-intersection_right empties cells n (inside n h))
      (has-intersection_right ends to (code_of full.to) leads)))
      (λ test.
      let live = first_of_both (is_live_from empties ends full) (is_live_from cells to full) test in
      let held = second_of_both (is_live_from empties ends full) (is_live_from cells to full) test in
      live_if (intersection empties cells) (intersection ends to)
      (λ n h. has-intersection_both empties cells n (inside_if empties ends live n h) (inside_if cells to held n h))
      (has-intersection_both ends to (code_of full.to) (leads_if empties ends live) (leads_if cells to held)))

-- ---- all entries

pub live_from-within : (empties ends cells to : ℕ) (fulls : List FullLink)
    → live_from (intersection empties cells) (intersection ends to) fulls ≡ filter (is_live_from cells to) (live_from empties ends fulls)
live_from-within empties ends cells to fulls =
    filter_agree (is_live_from (intersection empties cells) (intersection ends to))
    (λ full. is_live_from empties ends full && is_live_from cells to full) (λ full. live-both full empties ends cells to) fulls
    ∙ sym (filter_filter (is_live_from cells to) (is_live_from empties ends) fulls)

pub full-within : (set : Standing) (vertex : Vertex) (cells to : ℕ) (fulls : List FullLink) → AreFullAt set vertex fulls
    → AreFullWithin set vertex cells to (filter (is_live_from cells to) fulls)
full-within set vertex cells to fulls are =
    let held : FullLink → Bool = is_live_from cells to in
    record {
      rising = rising-filter held fulls are.rising;
      each = λ k d lt.
          let full = get_or (filter held fulls) k d in
          let test : held full ≡ true = filter_passes held fulls k d lt in
          record {
            full_at = All-filter held (IsFullAt set vertex) fulls are.each k d lt;
            inside = inside_if full cells to test;
            leads_to = leads_if full cells to test;
          };
      all = λ full h.
          let place = are.all full h.full_at in
          contains-filter held fulls full place.0 (live_if full cells to h.inside h.leads_to) place.1 place.2;
    }
