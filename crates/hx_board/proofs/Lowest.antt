-- The lowest number of a set, and the set without it. Below that number a set has no binary digit 1, so to take 1 away
-- changes that digit to 0 and those below it to 1, and leaves the ones above.
use Rattle.std.proofs.Common.{◌≡◌, ◌≢◌, ℕ, suc, ◌+◌, ◌-◌, ◌*◌, ◌/◌, ◌%◌, ◌^◌, ◌<◌, ◌≤◌, Bool, true, false, ◌&&◌, not, eqb}
use Rattle.std.proofs.Common.{refl, sym, ap, ◌∙◌, arith, bit_and, ◌⊎◌, inl, inr, ⊎_elim}
use Rattle.std.proofs.lemmas.Bool.{false≢true, cases_lt}
use Rattle.std.proofs.lemmas.Bool.Decides.{nat_tests, eqb_tells}
use Rattle.std.proofs.lemmas.Nat.{div-add-mod'}
use Rattle.std.proofs.lemmas.Nat.Bits.{bit_at-trailing_zeros, bit_at-lt, bit_at-zero, bit_at_above}
use Rattle.std.proofs.lemmas.Nat.Bits.{bit_at_cat_low, bit_at_cat_high, same_from_bits}
use Rattle.std.proofs.Math.Nat.{mod-lt}
use Rattle.std.proofs.Math.Pow.{pow_pos, pow-lt}
use Rattle.std.specs.Int.{bit_at}
use Rattle.std.specs.Int.Count.{count_trailing_zeros}
use mir.Syntax.{w128}
use Rattle.hx_board.specs.Sets.{has, remove, intersection, IsLowest}
use Rattle.hx_board.proofs.SetLaws.{same_set, has-empty, has-intersection, has-remove}
use Rattle.hx_board.proofs.Counts.{one_more}

pub lowest-is : (s here : ℕ) → here ≡ s → here ≢ 0 → here < 2 ^ 128 → IsLowest s (count_trailing_zeros 128 here)
unfolding has
lowest-is s here same some small =
    let t = bit_at-trailing_zeros w128 here (omega arith) small in
    record {
      small = t.0;
      member = ap (λ (x : ℕ). eqb (bit_at x (count_trailing_zeros 128 here)) 1) (sym same) ∙ ap (λ (b : ℕ). eqb b 1) t.1;
      first = λ n h. ap (λ (x : ℕ). eqb (bit_at x n) 1) (sym same) ∙ ap (λ (b : ℕ). eqb b 1) (t.2 n h);
    }

is_one : (b : ℕ) → eqb b 1 ≡ true → b ≡ 1
is_one b h = grind (arith, nat_tests)

is_none : (b : ℕ) → b < 2 → eqb b 1 ≡ false → b ≡ 0
is_none b small h = grind (arith, nat_tests)

module _ (s n : ℕ) (lowest : IsLowest s n) where
  abbrev rest : ℕ
  rest = s / 2 ^ suc n

  digit : bit_at s n ≡ 1
  unfolding has
  digit = is_one (bit_at s n) lowest.member

  none_below : s % 2 ^ n ≡ 0
  unfolding has
  none_below = same_from_bits (s % 2 ^ n) 0 (λ i. each i (cases_lt i n) ∙ sym (bit_at-zero i))
    where
      each : (i : ℕ) → (i < n) ⊎ (n ≤ i) → bit_at (s % 2 ^ n) i ≡ 0
      each i (inl h) =
          sym (bit_at_cat_low (s / 2 ^ n) n (s % 2 ^ n) i h) ∙ ap (λ (x : ℕ). bit_at x i) (div-add-mod' s (2 ^ n))
          ∙ is_none (bit_at s i) (bit_at-lt s i) (lowest.first i h)
      each i (inr h) = bit_at_above (s % 2 ^ n) n i (mod-lt s (pow_pos n)) h

  whole : s ≡ rest * 2 ^ suc n + 2 ^ n
  whole = sym (div-add-mod' s (2 ^ suc n)) ∙ ap (λ (x : ℕ). rest * 2 ^ suc n + x) (one_more n s ∙ rw (digit, none_below) (omega arith))

  less : s - 1 ≡ rest * 2 ^ suc n + (2 ^ n - 1)
  less = let some : 0 < 2 ^ n = pow_pos n in let is : s ≡ rest * 2 ^ suc n + 2 ^ n = whole in omega arith

  here : (i : ℕ) → i ≡ n → has (s - 1) i ≡ false
  unfolding has
  here i same =
      rw (
        same,
        less,
        bit_at_cat_low rest (suc n) (2 ^ n - 1) n (omega arith),
        bit_at_above (2 ^ n - 1) n n (falls (2 ^ n) (pow_pos n)) (omega arith),
      ) refl
    where
      falls : (x : ℕ) → 0 < x → x - 1 < x
      falls x h = omega arith

  above : (i : ℕ) → n < i → has (s - 1) i ≡ has s i
  unfolding has
  above i h =
      let next : n < suc n = omega arith in
      let smaller : 2 ^ n < 2 ^ suc n = pow-lt next in
      ap (λ (x : ℕ). eqb (bit_at x i) 1) less
      ∙ ap (λ (b : ℕ). eqb b 1) (bit_at_cat_high rest (suc n) (2 ^ n - 1) i (omega arith) h
      ∙ sym (bit_at_cat_high rest (suc n) (2 ^ n) i smaller h))
      ∙ ap (λ (x : ℕ). eqb (bit_at x i) 1) (sym whole)

  pub remove-lowest : bit_and (s - 1) s ≡ remove s n
  unfolding intersection
  remove-lowest = same_set _ _ (λ i. has-intersection (s - 1) s i ∙ each i (cases_lt i n) ∙ sym (has-remove s n i))
    where
      neither : (a b c : Bool) → b ≡ false → (a && b) ≡ (b && c)
      neither true false c e = refl
      neither false false c e = refl
      neither a true c e = absurd (false≢true (sym e))

      gone : (a b : Bool) → a ≡ false → (a && b) ≡ (b && false)
      gone false true e = refl
      gone false false e = refl
      gone true b e = absurd (false≢true (sym e))

      same : (a : Bool) → (a && a) ≡ (a && true)
      same true = refl
      same false = refl

      each : (i : ℕ) → (i < n) ⊎ (n ≤ i) → (has (s - 1) i && has s i) ≡ (has s i && not (eqb i n))
      each i (inl h) = neither (has (s - 1) i) (has s i) (not (eqb i n)) (lowest.first i h)
      each i (inr h) = ⊎_elim (λ t. rw t.0 (gone (has (s - 1) i) (has s i) (here i t.1)))
          (λ t. rw (t.0, above i (beyond t.1)) (same (has s i))) (eqb_tells i n)
        where
          beyond : i ≢ n → n < i
          beyond apart = omega arith

-- a set that is not empty has a number of at least 1
pub some_one : (bits s : ℕ) → bits ≡ s → s ≢ 0 → 1 ≤ bits
some_one bits s same some = omega arith

pub some_member : (s n : ℕ) → IsLowest s n → s ≢ 0
some_member s n lowest none = false≢true (sym (has-empty n) ∙ rw none at lowest.member)
