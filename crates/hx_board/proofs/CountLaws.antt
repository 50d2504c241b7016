-- How many members a set has: fewer where it lost one, and at most 121 where it has cells alone.
use Rattle.std.proofs.Common.{◌≡◌, ◌≢◌, ℕ, zero, suc, ◌+◌, ◌<◌, ◌≤◌, Bool, true, false, not, eqb, eq-eqb, ◌^◌, refl, sym, ap, ◌∙◌, subst}
use Rattle.std.proofs.Common.{◌⊎◌, inl, inr, ⊎_elim, arith}
use Rattle.std.proofs.lemmas.Bool.{false≢true, cases_lt, ne_eqb, and_from, false_from_ne_true}
use Rattle.hx_board.specs.Sets.{has, remove, intersection, count_below, IsSubset, ShareOne}
use Rattle.hx_board.proofs.CellLaws.{share_one}
use Rattle.hx_board.proofs.SetLaws.{is_subset-intersection, has-remove, has-intersection_left, has-intersection_right}
use Rattle.hx_board.proofs.Tallies.{share, tally, count_below-tally, count_below-remove}

share-le : (b : Bool) (n bound : ℕ) → n ≤ bound → share b + n ≤ suc bound
share-le true n bound le = omega arith
share-le false n bound le = omega arith

tally-le : (test : ℕ → Bool) (bound : ℕ) → tally test bound ≤ bound
tally-le test zero = omega arith
tally-le test (suc bound) = share-le (test bound) (tally test bound) bound (tally-le test bound)

tally-small : (test : ℕ → Bool) (bound : ℕ) → ((n : ℕ) → test n ≡ true → n < 121) → tally test bound ≤ 121
tally-small test zero small = omega arith
tally-small test (suc bound) small = ⊎_elim
    (λ lt. omega (arith, tally-le test (suc bound), lt))
    (λ le. let none : share (test bound) ≡ 0 =
    ap share (false_from_ne_true (test bound) (λ h. absurd (omega (arith, small bound h, le)))) in
    omega (arith, tally-small test bound small, none))
    (cases_lt bound 121)

pub count-small : (set : ℕ) → ((n : ℕ) → has set n ≡ true → n < 121) → count_below 128 set ≤ 121
count-small set small = rw (count_below-tally 128 set) (tally-small (has set) 128 small)

share-subset : (b c : Bool) → (b ≡ true → c ≡ true) → share b ≤ share c
share-subset true c h = let e = ap share (h refl) in omega (arith, e)
share-subset false c h = omega arith

tally-subset : (test other : ℕ → Bool) (bound : ℕ) → ((n : ℕ) → test n ≡ true → other n ≡ true) → tally test bound ≤ tally other bound
tally-subset test other zero h = omega arith
tally-subset test other (suc bound) h = omega (arith, share-subset (test bound) (other bound) (h bound), tally-subset test other bound h)

kept : (set n k : ℕ) → has set k ≡ true → k ≢ n → has (remove set n) k ≡ true
kept set n k h ne = has-remove set n k ∙ and_from (has set k) (not (eqb k n)) h (ap not (ne_eqb k n ne))

pub count-less : (set other n : ℕ) → n < 128 → has set n ≡ true → has other n ≡ false
    → count_below 128 (intersection set other) < count_below 128 set
count-less set other n small member lacks =
    let rest : IsSubset (intersection set other) (remove set n) = λ k h. kept set n k (has-intersection_left set other k h)
    (λ e. false≢true (sym lacks ∙ (ap (has other) (sym e) ∙ has-intersection_right set other k h))) in
    let le : tally (has (intersection set other)) 128 ≤ tally (has (remove set n)) 128 =
    tally-subset (has (intersection set other)) (has (remove set n)) 128 rest in
    omega (
      arith,
      le,
      count_below-tally 128 (intersection set other),
      count_below-tally 128 (remove set n),
      count_below-remove 128 set n member small,
    )

-- a set that is not empty has a member
pub some_member : (set bits : ℕ) → bits ≡ set → bits < 2 ^ 128 → eqb bits 0 ≡ false → (n : ℕ) × (has set n ≡ true)
some_member set bits e small some =
    let w : ShareOne set set =
    share_one set set bits (e ∙ sym (is_subset-intersection set set (λ n h. h))) small
    (λ zero_is. false≢true (sym some ∙ eq-eqb bits 0 zero_is)) in
    (w.shared, w.in_set)

-- ---- a set that is not inside another has a member that the other lacks

pub record Lacks (set other : ℕ) : Type 0 where
  pub cell : ℕ
  pub member : has set cell ≡ true
  pub lacks : has other cell ≡ false

lacks_below : (set other bound : ℕ) → Lacks set other ⊎ ((n : ℕ) → n < bound → has set n ≡ true → has other n ≡ true)
lacks_below set other zero = inr (λ n low h. absurd (omega arith))
lacks_below set other (suc bound) = ⊎_elim inl (λ rest. here rest (has set bound) (has other bound) refl refl) (lacks_below set other bound)
  where
    here : ((n : ℕ) → n < bound → has set n ≡ true → has other n ≡ true) → (a b : Bool) → has set bound ≡ a → has other bound ≡ b
        → Lacks set other ⊎ ((n : ℕ) → n < suc bound → has set n ≡ true → has other n ≡ true)
    here rest true false in_set not_other = inl (record { cell = bound; member = in_set; lacks = not_other })
    here rest true true in_set in_other = inr (λ n low h. ⊎_elim (λ k. rest n k h)
        (λ k. let same : bound ≡ n = omega arith in let P : ℕ → Type 0 = λ x. has other x ≡ true in subst P same in_other)
        (cases_lt n bound))
    here rest false b not_set e = inr (λ n low h. ⊎_elim (λ k. rest n k h)
        (λ k. let same : n ≡ bound = omega arith in absurd (false≢true (sym not_set ∙ ap (has set) (sym same) ∙ h))) (cases_lt n bound))

pub lacks_one : (set other : ℕ) → ((n : ℕ) → has set n ≡ true → n < 121) → (IsSubset set other → ⊥) → Lacks set other
lacks_one set other small not = ⊎_elim (λ w. w) (λ all. absurd (not (λ n h. all n (small n h) h))) (lacks_below set other 121)
