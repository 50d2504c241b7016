-- The laws of rings. What is pointwise comes first: rings without a node, and with a node at the end of a ring, are
-- rings. Then the two lists: to put back undoes to take out, and to cut undoes to grow, exactly, so that undoing needs
-- no law of rings at all.
use Rattle.std.proofs.lemmas.List.{get_or_push, length-set, get_or-set_other, set-set, set-get_or, set-append_left, take_all}
use Rattle.std.proofs.lemmas.List.{take-append-le, length-take}
use Rattle.std.proofs.lemmas.Bool.{cases_eq}
use Rattle.std.proofs.Common.{◌≡◌, ◌≢◌, ℕ, ◌-◌, ◌<◌, ◌≤◌, List, [], ◌∷◌, ◌++◌, length, take, set, get_or, refl, sym, ap, ◌∙◌, subst, inl}
use Rattle.std.proofs.Common.{inr, ◌⊎◌, arith, length-append}
use Rattle.hx_linkset.specs.Rings.{IsNotBetween, AreRings, Rings, unlinked, relinked, grown, cut, IsInside}

-- with the node between gone, nothing comes between its neighbours
clear-joined : (p i n u : ℕ) → u ≢ i → n ≢ i → p ≢ i → IsNotBetween p u i → IsNotBetween i u n → IsNotBetween p n i → IsNotBetween i p n
    → IsNotBetween p u n
clear-joined p i n u ui ni pi a b c d = grind arith

module _ (head_of next previous : ℕ → ℕ) (Linked : ℕ → Type 0) (r : AreRings head_of next previous Linked) where
  module _ (i : ℕ) (there : Linked i) (inner : head_of i ≢ i) where
    abbrev p : ℕ
    p = previous i

    abbrev n : ℕ
    n = next i

    p_linked : Linked p
    p_linked = r.previous_linked i there

    n_linked : Linked n
    n_linked = r.next_linked i there

    p_head : head_of p ≡ head_of i
    p_head = sym (r.same_head p p_linked) ∙ ap head_of (r.forth i there)

    pub after_other : n ≢ i
    after_other e =
        let c : IsNotBetween i (head_of i) n = r.clear i (head_of i) there (r.head_linked i there) (r.head_own i there) in
        let le : n ≤ i = omega (arith, e) in
        let both = c.1 le in
        inner (omega (arith, both.0, both.1, e))

    pub before_other : p ≢ i
    before_other e = after_other (ap next (sym e) ∙ r.forth i there)

    module _ (next' previous' : ℕ → ℕ) (Linked' : ℕ → Type 0) (other : (v : ℕ) → Linked' v → v ≢ i) (was : (v : ℕ) → Linked' v → Linked v)
        (stays : (v : ℕ) → v ≢ i → Linked v → Linked' v)
        (next_at : next' p ≡ n) (next_rest : (v : ℕ) → v ≢ p → next' v ≡ next v) (previous_at : previous' n ≡ p)
        (previous_rest : (v : ℕ) → v ≢ n → previous' v ≡ previous v) where
      next_other : (v : ℕ) → Linked v → v ≢ p → next v ≢ i
      next_other v h ne e = ne (sym (r.back v h) ∙ ap previous e)

      previous_other : (v : ℕ) → Linked v → v ≢ n → previous v ≢ i
      previous_other v h ne e = ne (sym (r.forth v h) ∙ ap next e)

      next_is : (v : ℕ) → (v ≡ p) ⊎ (v ≢ p) → Linked' v → (Linked' (next' v)) × (head_of (next' v) ≡ head_of v) × (previous' (next' v) ≡ v)
      next_is v (inl e) h =
          let at : next' v ≡ n = ap next' e ∙ next_at in (
            (let P : ℕ → Type 0 = λ w. Linked' w in subst P (sym at) (stays n after_other n_linked)),
            ap head_of at
                ∙ (r.same_head i there ∙ (sym p_head ∙ ap head_of (sym e))),
            ap previous' at ∙ (previous_at ∙ sym e),
          )
      next_is v (inr ne) h =
          let at : next' v ≡ next v = next_rest v ne in (
            (let P : ℕ → Type 0 = λ w. Linked' w in
                subst P (sym at) (stays (next v) (next_other v (was v h) ne) (r.next_linked v (was v h)))),
            ap head_of at ∙ r.same_head v (was v h),
            ap previous' at ∙ (previous_rest (next v) (λ e. other v h (sym (r.back v (was v h)) ∙ (ap previous e ∙ r.back i there)))
                ∙ r.back v (was v h)),
          )

      previous_is : (v : ℕ) → (v ≡ n) ⊎ (v ≢ n) → Linked' v → (Linked' (previous' v)) × (next' (previous' v) ≡ v)
      previous_is v (inl e) h =
          let at : previous' v ≡ p = ap previous' e ∙ previous_at in
          ((let P : ℕ → Type 0 = λ w. Linked' w in subst P (sym at) (stays p before_other p_linked)), ap next' at ∙ (next_at ∙ sym e))
      previous_is v (inr ne) h =
          let at : previous' v ≡ previous v = previous_rest v ne in (
            (let P : ℕ → Type 0 = λ w. Linked' w in
                subst P (sym at) (stays (previous v) (previous_other v (was v h) ne) (r.previous_linked v (was v h)))),
            ap next' at ∙ (next_rest (previous v) (λ e. other v h (sym (r.forth v (was v h)) ∙ (ap next e ∙ r.forth i there)))
                ∙ r.forth v (was v h)),
          )

      clear_is : (v u : ℕ) → (v ≡ p) ⊎ (v ≢ p) → Linked' v → Linked' u → head_of u ≡ head_of v → IsNotBetween v u (next' v)
      clear_is v u (inl e) h k same =
          let u_head : head_of u ≡ head_of i = same ∙ (ap head_of e ∙ p_head) in
          let a : IsNotBetween p u i = let P : ℕ → Type 0 = λ w. IsNotBetween p u w in
          subst P (r.forth i there) (r.clear p u p_linked (was u k) (u_head ∙ sym p_head)) in
          let b : IsNotBetween i u n = r.clear i u there (was u k) u_head in
          let c : IsNotBetween p n i = let P : ℕ → Type 0 = λ w. IsNotBetween p n w in
          subst P (r.forth i there) (r.clear p n p_linked n_linked (r.same_head i there ∙ sym p_head)) in
          let d : IsNotBetween i p n = r.clear i p there p_linked p_head in
          let joined : IsNotBetween p u n = clear-joined p i n u (other u k) after_other before_other a b c d in
          let P : ℕ → Type 0 = λ w. IsNotBetween w u (next' w) in
          let Q : ℕ → Type 0 = λ w. IsNotBetween p u w in
          subst P (sym e) (subst Q (sym next_at) joined)
      clear_is v u (inr ne) h k same = let Q : ℕ → Type 0 = λ w. IsNotBetween v u w in
          subst Q (sym (next_rest v ne)) (r.clear v u (was v h) (was u k) same)

      -- the rings without the node
      pub rings-unlinked : AreRings head_of next' previous' Linked'
      rings-unlinked = record {
        head_linked = λ v h. stays (head_of v) (λ e. inner (ap head_of (sym e) ∙ (r.head_own v (was v h) ∙ e))) (r.head_linked v (was v h));
        head_own = λ v h. r.head_own v (was v h);
        above = λ v h. r.above v (was v h);
        next_linked = λ v h. (next_is v (cases_eq v p) h).0;
        previous_linked = λ v h. (previous_is v (cases_eq v n) h).0;
        same_head = λ v h. (next_is v (cases_eq v p) h).1;
        back = λ v h. (next_is v (cases_eq v p) h).2;
        forth = λ v h. (previous_is v (cases_eq v n) h).1;
        clear = λ v u h k same. clear_is v u (cases_eq v p) h k same;
      }

-- a new last node comes after the old last one
clear-last : (p h i u : ℕ) → p < i → h ≤ p → IsNotBetween p u h → IsNotBetween p u i
clear-last p h i u less le a = grind arith

clear-new : (h i u : ℕ) → h ≤ u → u < i → IsNotBetween i u h
clear-new h i u le less = (λ lt. inl (omega arith), λ le'. (le, omega arith))

clear-itself : (v w : ℕ) → v < w → IsNotBetween v w w
clear-itself v w less = (λ lt. inr (omega arith), λ le. (omega arith, absurd (omega arith)))

module _ (head_of next previous : ℕ → ℕ) (Linked : ℕ → Type 0) (r : AreRings head_of next previous Linked) (i h : ℕ) (h_linked : Linked h)
    (h_own : head_of h ≡ h) (i_head : head_of i ≡ h) (new : Linked i → ⊥) (last : (v : ℕ) → Linked v → v < i) where
  abbrev tail : ℕ
  tail = previous h

  tail_linked : Linked tail
  tail_linked = r.previous_linked h h_linked

  tail_head : head_of tail ≡ h
  tail_head = sym (r.same_head tail tail_linked) ∙ (ap head_of (r.forth h h_linked) ∙ h_own)

  h_below : h ≤ tail
  h_below = omega (arith, r.above tail tail_linked, tail_head)

  -- only the last node leads back
  leads_back : (v : ℕ) → Linked v → head_of v ≡ h → next v ≤ v → v ≡ tail
  leads_back v k same le =
      let c : IsNotBetween v h (next v) = r.clear v h k h_linked (h_own ∙ sym same) in
      let both = c.1 le in
      let at_least : head_of (next v) ≤ next v = r.above (next v) (r.next_linked v k) in
      let is_h : next v ≡ h = omega (arith, both.0, at_least, r.same_head v k, same) in
      sym (r.back v k) ∙ ap previous is_h

  module _ (next' previous' : ℕ → ℕ) (Linked' : ℕ → Type 0) (there : Linked' i) (old : (v : ℕ) → v ≢ i → Linked' v → Linked v)
      (now : (v : ℕ) → Linked v → Linked' v)
      (next_tail : next' tail ≡ i) (next_new : next' i ≡ h) (next_rest : (v : ℕ) → v ≢ tail → v ≢ i → next' v ≡ next v)
      (previous_head : previous' h ≡ i) (previous_new : previous' i ≡ tail)
      (previous_rest : (v : ℕ) → v ≢ h → v ≢ i → previous' v ≡ previous v) where
    not_new : (v : ℕ) → Linked v → v ≢ i
    not_new v k e = new (let P : ℕ → Type 0 = λ w. Linked w in subst P e k)

    head_of_new : (v : ℕ) → (v ≡ i) ⊎ (v ≢ i) → Linked' v → (Linked' (head_of v)) × (head_of (head_of v) ≡ head_of v) × (head_of v ≤ v)
    head_of_new v (inl e) k =
        let at : head_of v ≡ h = ap head_of e ∙ i_head in (
          (let P : ℕ → Type 0 = λ w. Linked' w in subst P (sym at) (now h h_linked)),
          ap head_of at ∙ (h_own ∙ sym at),
          omega (arith, at, e, last h h_linked),
        )
    head_of_new v (inr ne) k = (now (head_of v) (r.head_linked v (old v ne k)), r.head_own v (old v ne k), r.above v (old v ne k))

    next_is' : (v : ℕ) → (v ≡ i) ⊎ (v ≢ i) → (v ≡ tail) ⊎ (v ≢ tail) → Linked' v → (Linked' (next' v)) × (head_of (next' v) ≡ head_of v)
        × (previous' (next' v) ≡ v)
    next_is' v (inl e) t k = let at : next' v ≡ h = ap next' e ∙ next_new in (
      (let P : ℕ → Type 0 = λ w. Linked' w in subst P (sym at) (now h h_linked)),
      ap head_of at
          ∙ (h_own ∙ (sym i_head ∙ ap head_of (sym e))),
      ap previous' at ∙ (previous_head ∙ sym e),
    )
    next_is' v (inr ne) (inl e) k = let at : next' v ≡ i = ap next' e ∙ next_tail in (
      (let P : ℕ → Type 0 = λ w. Linked' w in subst P (sym at) (there)),
      ap head_of at ∙ (i_head ∙ (sym tail_head ∙ ap head_of (sym e))),
      ap previous' at ∙ (previous_new ∙ sym e),
    )
    next_is' v (inr ne) (inr nt) k =
        let at : next' v ≡ next v = next_rest v nt ne in
        let was : Linked v = old v ne k in (
          (let P : ℕ → Type 0 = λ w. Linked' w in subst P (sym at) (now (next v) (r.next_linked v was))),
          ap head_of at ∙ r.same_head v was,
          ap previous' at ∙ (previous_rest (next v) (λ e. nt (sym (r.back v was) ∙ ap previous e)) (not_new (next v) (r.next_linked v was))
              ∙ r.back v was),
        )

    previous_is' : (v : ℕ) → (v ≡ i) ⊎ (v ≢ i) → (v ≡ h) ⊎ (v ≢ h) → Linked' v → (Linked' (previous' v)) × (next' (previous' v) ≡ v)
    previous_is' v (inl e) t k = let at : previous' v ≡ tail = ap previous' e ∙ previous_new in
        ((let P : ℕ → Type 0 = λ w. Linked' w in subst P (sym at) (now tail tail_linked)), ap next' at ∙ (next_tail ∙ sym e))
    previous_is' v (inr ne) (inl e) k = let at : previous' v ≡ i = ap previous' e ∙ previous_head in
        ((let P : ℕ → Type 0 = λ w. Linked' w in subst P (sym at) (there)), ap next' at ∙ (next_new ∙ sym e))
    previous_is' v (inr ne) (inr nh) k =
        let at : previous' v ≡ previous v = previous_rest v nh ne in
        let was : Linked v = old v ne k in (
          (let P : ℕ → Type 0 = λ w. Linked' w in subst P (sym at) (now (previous v) (r.previous_linked v was))),
          ap next' at ∙ (next_rest (previous v) (λ e. nh (sym (r.forth v was) ∙ (ap next e ∙ r.forth h h_linked)))
              (not_new (previous v) (r.previous_linked v was)) ∙ r.forth v was),
        )

    clear_is' : (v u : ℕ) → (v ≡ i) ⊎ (v ≢ i) → (v ≡ tail) ⊎ (v ≢ tail) → (u ≡ i) ⊎ (u ≢ i) → Linked' v → Linked' u → head_of u ≡ head_of v
        → IsNotBetween v u (next' v)
    clear_is' v u (inl e) t w k l same =
        let Q : ℕ → Type 0 = λ x. IsNotBetween v u x in
        let at : next' v ≡ h = ap next' e ∙ next_new in
        let u_head : head_of u ≡ h = same ∙ (ap head_of e ∙ i_head) in
        subst Q (sym at) (new_clear v u e u_head w l)
      where
        new_clear : (v u : ℕ) → v ≡ i → head_of u ≡ h → (u ≡ i) ⊎ (u ≢ i) → Linked' u → IsNotBetween v u h
        new_clear v u e u_head (inl f) l =
            (λ lt. inl (omega (arith, e, f)), λ le. (omega (arith, e, f, last h h_linked), omega (arith, e, f)))
        new_clear v u e u_head (inr ne) l = let P : ℕ → Type 0 = λ x. IsNotBetween x u h in
            subst P (sym e) (clear-new h i u (omega (arith, r.above u (old u ne l), u_head)) (last u (old u ne l)))
    clear_is' v u (inr ne) (inl e) (inl f) k l same =
        let Q : ℕ → Type 0 = λ x. IsNotBetween v u x in
        let P : ℕ → Type 0 = λ x. IsNotBetween v x i in
        subst Q (sym (ap next' e ∙ next_tail)) (subst P (sym f) (clear-itself v i (last v (old v ne k))))
    clear_is' v u (inr ne) (inl e) (inr nu) k l same =
        let Q : ℕ → Type 0 = λ x. IsNotBetween v u x in
        let P : ℕ → Type 0 = λ x. IsNotBetween x u i in
        let S : ℕ → Type 0 = λ x. IsNotBetween tail u x in
        let before : IsNotBetween tail u h = subst S (r.forth h h_linked) (r.clear tail u tail_linked (old u nu l) (same ∙ ap head_of e)) in
        subst Q (sym (ap next' e ∙ next_tail)) (subst P (sym e) (clear-last tail h i u (last tail tail_linked) h_below before))
    clear_is' v u (inr ne) (inr nt) (inl f) k l same =
        let was : Linked v = old v ne k in
        let at : next' v ≡ next v = next_rest v nt ne in
        let v_head : head_of v ≡ h = sym same ∙ (ap head_of f ∙ i_head) in
        let Q : ℕ → Type 0 = λ x. IsNotBetween v u x in
        subst Q (sym at) (λ lt. inr (omega (arith, f, last (next v) (r.next_linked v was))), λ le. absurd (nt (leads_back v was v_head le)))
    clear_is' v u (inr ne) (inr nt) (inr nu) k l same = let Q : ℕ → Type 0 = λ x. IsNotBetween v u x in
        subst Q (sym (next_rest v nt ne)) (r.clear v u (old v ne k) (old u nu l) same)

    -- the rings with the node at the end of its ring
    pub rings-grown : AreRings head_of next' previous' Linked'
    rings-grown = record {
      head_linked = λ v k. (head_of_new v (cases_eq v i) k).0;
      head_own = λ v k. (head_of_new v (cases_eq v i) k).1;
      above = λ v k. (head_of_new v (cases_eq v i) k).2;
      next_linked = λ v k. (next_is' v (cases_eq v i) (cases_eq v tail) k).0;
      previous_linked = λ v k. (previous_is' v (cases_eq v i) (cases_eq v h) k).0;
      same_head = λ v k. (next_is' v (cases_eq v i) (cases_eq v tail) k).1;
      back = λ v k. (next_is' v (cases_eq v i) (cases_eq v tail) k).2;
      forth = λ v k. (previous_is' v (cases_eq v i) (cases_eq v h) k).1;
      clear = λ v u k l same. clear_is' v u (cases_eq v i) (cases_eq v tail) (cases_eq u i) k l same;
    }

-- ---- the two lists: what each step does, and that it can be taken back exactly

-- the neighbours of a node are others, and know it
pub record IsBetween (rings : Rings) (node : ℕ) : Type 0 where
  pub before_small : get_or rings.previous node 0 < length rings.next
  pub after_small : get_or rings.next node 0 < length rings.previous
  pub before_other : (get_or rings.previous node 0 ≡ node) → ⊥
  pub after_other : (get_or rings.next node 0 ≡ node) → ⊥
  pub next_of_before : get_or rings.next (get_or rings.previous node 0) 0 ≡ node
  pub previous_of_after : get_or rings.previous (get_or rings.next node 0) 0 ≡ node

rings-eq : (a b c d : List ℕ) → a ≡ b → c ≡ d → (let r : Rings = record { next = a; previous = c } in r) ≡ record { next = b; previous = d }
rings-eq a b c d e f = cc

set-back : (xs : List ℕ) (k x y : ℕ) → get_or xs k 0 ≡ y → set (set xs k x) k y ≡ xs
set-back xs k x y e = set-set xs k x y ∙ (ap (λ z. set xs k z) (sym e) ∙ set-get_or xs k 0)

pub relinked-unlinked : (r : Rings) (i : ℕ) → IsBetween r i → relinked (unlinked r i) i ≡ r
relinked-unlinked r i b =
    let p : ℕ = get_or r.previous i 0 in
    let n : ℕ = get_or r.next i 0 in
    let p_same : get_or (set r.previous n p) i 0 ≡ p = get_or-set_other r.previous n i p 0 (λ e. b.after_other (sym e)) in
    let n_same : get_or (set r.next p n) i 0 ≡ n = get_or-set_other r.next p i n 0 (λ e. b.before_other (sym e)) in
    rings-eq _ _ _ _
    (ap (λ k. set (set r.next p n) k i) p_same ∙ set-back r.next p n i b.next_of_before)
    (ap (λ k. set (set r.previous n p) k i) n_same ∙ set-back r.previous n p i b.previous_of_after)

-- the front of a longer list after a write
front-set : (xs : List ℕ) (k x y z n : ℕ) → n ≡ length xs → k < length xs → take n (set (set xs k z ++ x ∷ []) k y) ≡ set xs k y
front-set xs k x y z n e lt =
    let lt' : k < length (set xs k z) = omega (arith, length-set {A = ℕ}) in
    let le : n ≤ length (set (set xs k z) k y) = omega (arith, length-set {A = ℕ}) in
    ap (λ (zs : List ℕ). take n zs) (set-append_left (set xs k z) (x ∷ []) k y lt')
    ∙ (take-append-le n (set (set xs k z) k y) (x ∷ []) le
    ∙ (take_all n (set (set xs k z) k y) (omega (arith, length-set {A = ℕ})) ∙ set-set xs k z y))

-- a node that was put at an end is cut off again
cut-at : (next previous : List ℕ) (p h i node before after : ℕ) → i ≡ length next → i ≡ length previous → node ≡ i → before ≡ p → after ≡ h
    → p < length next → h < length previous → get_or next p 0 ≡ h → get_or previous h 0 ≡ p
    → (let r : Rings = record {
      next = take node (set (set next p i ++ h ∷ []) before after);
      previous =
          take node (set (set previous h i ++ p ∷ []) after before);
    } in r) ≡ record { next = next; previous = previous }
cut-at next previous p h i node before after e f is_node is_before is_after p_small h_small ends back =
    rw (is_node, is_before, is_after)
    (rings-eq _ _ _ _
    (front-set next p h h i i e p_small ∙ (ap (λ z. set next p z) (sym ends) ∙ set-get_or next p 0))
    (front-set previous h p p i i f h_small ∙ (ap (λ z. set previous h z) (sym back) ∙ set-get_or previous h 0)))

pub cut-grown : (r : Rings) (h : ℕ) → length r.previous ≡ length r.next → h < length r.next → get_or r.previous h 0 < length r.next
    → get_or r.next (get_or r.previous h 0) 0 ≡ h → cut (grown r h) ≡ r
cut-grown r h same h_small p_small ends =
    let i : ℕ = length r.next in
    let p : ℕ = get_or r.previous h 0 in
    let node : length (set r.next p i ++ h ∷ []) - 1 ≡ i = omega (arith, length-append (set r.next p i) (h ∷ []), length-set {A = ℕ}) in
    let long : length (set r.next p i) ≡ length (set r.next p i ++ h ∷ []) - 1 =
    omega (arith, length-append (set r.next p i) (h ∷ []), length-set {A = ℕ}) in
    let long' : length (set r.previous h i) ≡ length (set r.next p i ++ h ∷ []) - 1 =
    omega (arith, length-append (set r.next p i) (h ∷ []), length-set {A = ℕ}) in
    cut-at r.next r.previous p h i _ _ _ refl (sym same) node (get_or_push (set r.previous h i) p 0 _ long')
    (get_or_push (set r.next p i) h 0 _ long) p_small (omega arith) ends refl

-- a node that was taken out keeps its entries
pub inside-unlinked : (r : Rings) (i : ℕ) → IsInside r i → IsBetween r i → IsInside (unlinked r i) i
inside-unlinked r i k b =
    let p : ℕ = get_or r.previous i 0 in
    let n : ℕ = get_or r.next i 0 in
    let p_same : get_or (set r.previous n p) i 0 ≡ p = get_or-set_other r.previous n i p 0 (λ e. b.after_other (sym e)) in
    let n_same : get_or (set r.next p n) i 0 ≡ n = get_or-set_other r.next p i n 0 (λ e. b.before_other (sym e)) in
    let next_long : length (set r.next p n) ≡ length r.next = length-set r.next p n in
    record {
      as_long = length-set r.previous n p ∙ (k.as_long ∙ sym next_long);
      small = omega (arith, next_long, k.small);
      before_inside = omega (arith, p_same, next_long, k.before_inside);
      after_inside = omega (arith, n_same, next_long, k.after_inside);
    }

pub length-cut : (r : Rings) → length (cut r).next ≡ length r.next - 1
length-cut r =
    let p : ℕ = get_or r.previous (length r.next - 1) 0 in
    let n : ℕ = get_or r.next (length r.next - 1) 0 in
    omega (arith, length-take (length r.next - 1) (set r.next p n), length-set r.next p n)
