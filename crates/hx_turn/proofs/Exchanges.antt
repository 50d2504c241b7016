-- Each exchange moves a number to its place in the other half of its block, and seven exchanges move each number n of
-- 128 to 127 - n. That the seven sets are the lower halves, and that the seven moves come to 127 - n, is tried number
-- by number.
use Rattle.std.proofs.Common.{◌≡◌, ℕ, ◌+◌, ◌-◌, ◌*◌, ◌/◌, ◌%◌, ◌^◌, ◌<◌, ◌≤◌, Bool, true, false, ◌&&◌, ◌||◌, not, eqb, eqb-true, leb, ltb}
use Rattle.std.proofs.Common.{cond, refl, sym, ap, ◌∙◌, arith, bit_or, bit_and}
use Rattle.std.proofs.lemmas.Bool.Decides.{nat_tests}
use Rattle.std.proofs.Math.Nat.{div-eq-sub-div, div-eq_of_lt}
use Rattle.std.proofs.lemmas.Bool.{agree_below, agree_below_at, false≢true, ltb-true}
use Rattle.hx_board.specs.Sets.{has, union, intersection}
use Rattle.hx_board.proofs.SetLaws.{has-union, has-intersection, has-later, has-earlier}
use Rattle.hx_turn.specs.Reversed.{AreLowHalves, partner}

-- whether a set has the lower halves of its blocks
abbrev has_lows : ℕ → ℕ → Bool
has_lows half low = agree_below (has low) (λ n. eqb (n / half % 2) 0) 128

pub low_halves : (half low : ℕ) → has_lows half low ≡ true → AreLowHalves half low
low_halves half low tried n less = agree_below_at (has low) (λ k. eqb (k / half % 2) 0) 128 n tried less

pub lows_2 : AreLowHalves 1 0x55555555555555555555555555555555
unfolding has
lows_2 = low_halves 1 0x55555555555555555555555555555555 refl

pub lows_4 : AreLowHalves 2 0x33333333333333333333333333333333
unfolding has
lows_4 = low_halves 2 0x33333333333333333333333333333333 refl

pub lows_8 : AreLowHalves 4 0x0f0f0f0f0f0f0f0f0f0f0f0f0f0f0f0f
unfolding has
lows_8 = low_halves 4 0x0f0f0f0f0f0f0f0f0f0f0f0f0f0f0f0f refl

pub lows_16 : AreLowHalves 8 0x00ff00ff00ff00ff00ff00ff00ff00ff
unfolding has
lows_16 = low_halves 8 0x00ff00ff00ff00ff00ff00ff00ff00ff refl

pub lows_32 : AreLowHalves 16 0x0000ffff0000ffff0000ffff0000ffff
unfolding has
lows_32 = low_halves 16 0x0000ffff0000ffff0000ffff0000ffff refl

pub lows_64 : AreLowHalves 32 0x00000000ffffffff00000000ffffffff
unfolding has
lows_64 = low_halves 32 0x00000000ffffffff00000000ffffffff refl

pub lows_128 : AreLowHalves 64 0xffffffffffffffff
unfolding has
lows_128 = low_halves 64 0xffffffffffffffff refl

leb_le : (a b : ℕ) → leb a b ≡ true → a ≤ b
leb_le a b h = grind (arith, nat_tests)

leb_lt : (a b : ℕ) → leb a b ≡ false → b < a
leb_lt a b h = grind (arith, nat_tests)

-- the half below an upper half is a lower one, and there is none below the first half
half_below : (n half : ℕ) → 0 < half → half ≤ n → eqb ((n - half) / half % 2) 0 ≡ not (eqb (n / half % 2) 0)
half_below n half some reaches = flips (n / half) ((n - half) / half) (div-eq-sub-div some reaches)
  where
    flips : (q r : ℕ) → q ≡ r + 1 → eqb (r % 2) 0 ≡ not (eqb (q % 2) 0)
    flips q r e = grind (arith, nat_tests)

first_half : (n half : ℕ) → n < half → eqb (n / half % 2) 0 ≡ true
first_half n half less = ap (λ (q : ℕ). eqb (q % 2) 0) (div-eq_of_lt less)

has-cond : (bits a b : ℕ) (t : Bool) → has bits (cond t a b) ≡ cond t (has bits a) (has bits b)
has-cond bits a b true = refl
has-cond bits a b false = refl

-- in a lower half nothing comes from below, and in an upper half nothing from above
chosen : (reaches is_low low_below from_below from_above : Bool)
    → (is_low ≡ true → (reaches && low_below) ≡ false) → (is_low ≡ false → (reaches && low_below) ≡ true)
    → ((reaches && (from_below && low_below)) || (from_above && is_low)) ≡ cond is_low from_above from_below
chosen true true true x y low high = absurd (false≢true (sym (low refl)))
chosen true true false true true low high = refl
chosen true true false true false low high = refl
chosen true true false false true low high = refl
chosen true true false false false low high = refl
chosen true false true true true low high = refl
chosen true false true true false low high = refl
chosen true false true false true low high = refl
chosen true false true false false low high = refl
chosen true false false x y low high = absurd (false≢true (high refl))
chosen false true b x true low high = refl
chosen false true b x false low high = refl
chosen false false b x y low high = absurd (false≢true (high refl))

module _ (bits low half n : ℕ) (some : 0 < half) (are : AreLowHalves half low) (less : n < 128) where
  abbrev is_even : Bool
  is_even = eqb (n / half % 2) 0

  low_below : half ≤ n → has low (n - half) ≡ not is_even
  low_below reaches = are (n - half) (omega arith) ∙ half_below n half some reaches

  for_low : is_even ≡ true → (leb half n && has low (n - half)) ≡ false
  for_low even = by_test (leb half n) refl
    where
      by_test : (b : Bool) → leb half n ≡ b → (b && has low (n - half)) ≡ false
      by_test true e = low_below (leb_le half n e) ∙ ap not even
      by_test false e = refl

  for_high : is_even ≡ false → (leb half n && has low (n - half)) ≡ true
  for_high odd = by_test (leb half n) refl
    where
      by_test : (b : Bool) → leb half n ≡ b → (b && has low (n - half)) ≡ true
      by_test true e = low_below (leb_le half n e) ∙ ap not odd
      by_test false e = absurd (false≢true (sym odd ∙ first_half n half (leb_lt half n e)))

  from_below : has (bit_and bits low * 2 ^ half % 2 ^ 128) n ≡ (leb half n && (has bits (n - half) && has low (n - half)))
  unfolding intersection
  from_below = has-later (intersection bits low) half n less ∙ ap (λ b. leb half n && b) (has-intersection bits low (n - half))

  from_above : has (bit_and (bits / 2 ^ half) low) n ≡ (has bits (n + half) && is_even)
  unfolding intersection
  from_above = has-intersection (bits / 2 ^ half) low n ∙ cc (has-earlier bits half n, are n less)

  pub has-exchanged : has (bit_or (bit_and bits low * 2 ^ half % 2 ^ 128) (bit_and (bits / 2 ^ half) low)) n ≡ has bits (partner half n)
  unfolding union
  has-exchanged =
      has-union (bit_and bits low * 2 ^ half % 2 ^ 128) (bit_and (bits / 2 ^ half) low) n
      ∙ cc (from_below, from_above)
      ∙ chosen (leb half n) is_even (has low (n - half)) (has bits (n - half)) (has bits (n + half)) for_low for_high
      ∙ sym (has-cond bits (n + half) (n - half) is_even)

-- seven moves, the widest first
abbrev pub moved : ℕ → ℕ
moved n = partner 1 (partner 2 (partner 4 (partner 8 (partner 16 (partner 32 (partner 64 n))))))

pub partner-small : (half n : ℕ) → agree_below (λ k. ltb (partner half k) 128) (λ _. true) 128 ≡ true → n < 128 → partner half n < 128
partner-small half n tried less =
    ltb-true (partner half n) 128 (agree_below_at (λ k. ltb (partner half k) 128) (λ _. true) 128 n tried less)

each_moved : agree_below (λ k. eqb (moved k) (127 - k)) (λ _. true) 128 ≡ true
each_moved = refl

pub moved-is : (n : ℕ) → n < 128 → moved n ≡ 127 - n
moved-is n less = eqb-true _ _ (agree_below_at (λ k. eqb (moved k) (127 - k)) (λ _. true) 128 n each_moved less)
