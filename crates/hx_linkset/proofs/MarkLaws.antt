-- What a mark more changes: the marked places are those of before and the new one. So after a mark on each of some
-- places the marked ones are those of before and these.
use Rattle.std.proofs.Common.{◌≡◌, ℕ, zero, suc, ◌+◌, ◌-◌, ◌<◌, ◌≤◌, List, [], ◌∷◌, ◌++◌, length, take, drop, set, get_or, sym, ap, ◌∙◌}
use Rattle.std.proofs.Common.{subst, inl, inr, Some, ◌⊎◌, ⊎_elim, arith, eq-eqb, eqb-true}
use Rattle.std.specs.Prelude.{slice_index}
use Rattle.std.proofs.lemmas.Bool.{cases_eq}
use Rattle.std.proofs.lemmas.List.{length-set, get_or-set_same, get_or-set_other, get_or-drop, length-drop, take_more}
use Rattle.std.proofs.lemmas.Option.{slice_get-get_or}
use Rattle.memchr.specs.Find.{NoneBefore, Passes, is_byte}
use Rattle.hx_board.specs.Lists.{StandsIn}
use Rattle.hx_linkset.specs.Marks.{IsMarked, MarksMore, IsFirstMarkFrom}
use Rattle.hx_board.proofs.ListLaws.{get-push, get-push_before, get-push_last}

pub marked-inside : (marks : List ℕ) (place : ℕ) → IsMarked marks place → place < length marks
marked-inside [] place h = absurd (omega (arith, h))
marked-inside (m ∷ ms) zero h = omega arith
marked-inside (m ∷ ms) (suc place) h = omega (arith, marked-inside ms place h)

module _ (marks : List ℕ) (place : ℕ) (inside : place < length marks) where
  mark_stays : (other : ℕ) → (other ≡ place) ⊎ (other ≡ place → ⊥) → IsMarked marks other → IsMarked (set marks place 1) other
  mark_stays other (inl e) h = ap (λ p. slice_index (set marks place 1) p) e ∙ get_or-set_same marks place 1 0 inside
  mark_stays other (inr ne) h = get_or-set_other marks place other 1 0 ne ∙ h

  only_mark : (other : ℕ) → (other ≡ place) ⊎ (other ≡ place → ⊥) → IsMarked (set marks place 1) other → IsMarked marks other
      ⊎ (other ≡ place)
  only_mark other (inl e) h = inr e
  only_mark other (inr ne) h = inl (sym (get_or-set_other marks place other 1 0 ne) ∙ h)

  mark-one : MarksMore (λ p. p ≡ place) marks (set marks place 1)
  mark-one = record {
    long = length-set marks place 1;
    stay = λ p h. mark_stays p (cases_eq p place) h;
    each = λ p e. ap (λ q. slice_index (set marks place 1) q) e ∙ get_or-set_same marks place 1 0 inside;
    only = λ p h. only_mark p (cases_eq p place) h;
  }

mark-then : (A B : ℕ → Type 0) (old middle new : List ℕ) → MarksMore A old middle → MarksMore B middle new
    → MarksMore (λ p. A p ⊎ B p) old new
mark-then A B old middle new m n = record {
  long = n.long ∙ m.long;
  stay = λ p h. n.stay p (m.stay p h);
  each = λ p k. ⊎_elim (λ a. n.stay p (m.each p a)) (λ b. n.each p b) k;
  only = λ p h. ⊎_elim (λ k. ⊎_elim (λ was. inl was) (λ a. inr (inl a)) (m.only p k)) (λ b. inr (inr b)) (n.only p h);
}

mark-as : (A B : ℕ → Type 0) (old new : List ℕ) → ((p : ℕ) → A p → B p) → ((p : ℕ) → B p → A p) → MarksMore A old new → MarksMore B old new
mark-as A B old new to from m = record {
  long = m.long;
  stay = m.stay;
  each = λ p b. m.each p (from p b);
  only = λ p h. ⊎_elim (λ was. inl was) (λ a. inr (to p a)) (m.only p h);
}

-- two marks
pub mark-both : (marks : List ℕ) (left right : ℕ) → left < length marks → right < length marks
    → MarksMore (λ p. (p ≡ left) ⊎ (p ≡ right)) marks (set (set marks left 1) right 1)
mark-both marks left right l r =
    let r' : right < length (set marks left 1) = omega (arith, length-set {A = ℕ}) in
    mark-then (λ p. p ≡ left) (λ p. p ≡ right) marks (set marks left 1) (set (set marks left 1) right 1) (mark-one marks left l)
    (mark-one (set marks left 1) right r')

module _ (places : List ℕ) (i : ℕ) (inside : i < length places) where
  stands_to : (p : ℕ) → StandsIn (take i places) p ⊎ (p ≡ get_or places i 0) → StandsIn (take (i + 1) places) p
  stands_to p (inl s) = let P : List ℕ → Type 0 = λ ps. StandsIn ps p in
      subst P (sym (take_more places i 0 inside)) (s.0, get-push_before (take i places) (get_or places i 0) s.0 p s.1)
  stands_to p (inr e) = let P : List ℕ → Type 0 = λ ps. StandsIn ps p in
      subst P (sym (take_more places i 0 inside))
      (length (take i places), get-push_last (take i places) (get_or places i 0) ∙ ap (λ q. Some q) (sym e))

  pub stands_from : (p : ℕ) → StandsIn (take (i + 1) places) p → StandsIn (take i places) p ⊎ (p ≡ get_or places i 0)
  stands_from p s =
      let P : List ℕ → Type 0 = λ ps. StandsIn ps p in
      let t : StandsIn (take i places ++ get_or places i 0 ∷ []) p = subst P (take_more places i 0 inside) s in
      ⊎_elim (λ w. inl (t.0, w)) (λ w. inr w.1) (get-push (take i places) (get_or places i 0) p t.0 t.1)

  pub mark-next : (old marks : List ℕ) → get_or places i 0 < length marks → MarksMore (StandsIn (take i places)) old marks
      → MarksMore (StandsIn (take (i + 1) places)) old (set marks (get_or places i 0) 1)
  mark-next old marks lt m =
      mark-as (λ p. StandsIn (take i places) p ⊎ (p ≡ get_or places i 0)) (StandsIn (take (i + 1) places)) old
      (set marks (get_or places i 0) 1) stands_to stands_from
      (mark-then (StandsIn (take i places)) (λ p. p ≡ get_or places i 0) old marks (set marks (get_or places i 0) 1) m
      (mark-one marks (get_or places i 0) lt))

  pub stands-here : StandsIn places (get_or places i 0)
  stands-here = (i, slice_get-get_or places i 0 inside)

-- a search in the rest of the marks, from a bound on
module _ (marks rest : List ℕ) (bound : ℕ) (is_rest : rest ≡ drop bound marks) where
  in_rest : (k : ℕ) → slice_index rest k ≡ slice_index marks (bound + k)
  in_rest k = ap (λ (xs : List ℕ). slice_index xs k) is_rest ∙ get_or-drop bound marks k 0

  found_at : (place : ℕ) → bound ≤ place → IsMarked marks place → (k : ℕ)
      × ((bound + k ≡ place) × ((k < length rest) × Passes (is_byte 1) rest k))
  found_at place le h =
      let k : ℕ = place - bound in
      let e : bound + k ≡ place = omega arith in
      let long : length rest ≡ length marks - bound = ap (λ (xs : List ℕ). length xs) is_rest ∙ length-drop bound marks in
      (k, (e, (omega (arith, marked-inside marks place h), eq-eqb _ _ (in_rest k ∙ (ap (λ p. slice_index marks p) e ∙ h)))))

  pub found-none : ((k : ℕ) → 0 ≤ k → k < length rest → Passes (is_byte 1) rest k → ⊥) → (place : ℕ) → bound ≤ place → IsMarked marks place
      → ⊥
  found-none none place le h = let w = found_at place le h in none w.0 (omega arith) w.1.1.0 w.1.1.1

  pub found-first : (further : ℕ) → NoneBefore (Passes (is_byte 1) rest) 0 (length rest) further → Passes (is_byte 1) rest further
      → IsFirstMarkFrom marks bound (bound + further)
  found-first further none here = record {
    from = omega arith;
    marked = sym (in_rest further) ∙ eqb-true _ _ here;
    first = λ other le lt h. let w = found_at other le h in none.before w.0 (omega arith) (omega (arith, w.1.0)) w.1.1.1;
  }
