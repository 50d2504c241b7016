-- The list of all numbers that have a property: it rises, each of its numbers has the property, and no other number has
-- it.
use Rattle.std.proofs.lemmas.Bool.{cases_lt, cases_eq}
use Rattle.std.proofs.Common.{◌≡◌, ℕ, zero, suc, ◌+◌, ◌<◌, ◌≤◌, List, [], ◌∷◌, length, get_or, sym, ⊎_elim, arith}
use Rattle.std.specs.Prelude.{All, Contains}
use Rattle.std.specs.List.Sorted.{IsStrictlyIncreasing}

-- these are all numbers from one on that have a property, in rising order
abbrev pub AreAllFrom : (ℕ → Type 0) → ℕ → List ℕ → Type 0
AreAllFrom Has from [] = (n : ℕ) → from ≤ n → Has n → ⊥
AreAllFrom Has from (first ∷ rest) = (from ≤ first)
    × (Has first × (((n : ℕ) → from ≤ n → n < first → Has n → ⊥) × AreAllFrom Has (first + 1) rest))

module _ (Has : ℕ → Type 0) where
  all-from : (xs : List ℕ) (from k : ℕ) → AreAllFrom Has from xs → k < length xs → from ≤ get_or xs k 0
  all-from [] from k h lt = absurd (omega arith)
  all-from (x ∷ xs) from zero h lt = h.0
  all-from (x ∷ xs) from (suc k) h lt = omega (arith, all-from xs (x + 1) k h.1.1.1 (omega arith), h.0)

  pub all-rising : (xs : List ℕ) (from : ℕ) → AreAllFrom Has from xs → IsStrictlyIncreasing xs
  all-rising [] from h k lt = absurd (omega arith)
  all-rising (x ∷ xs) from h zero lt = omega (arith, all-from xs (x + 1) 0 h.1.1.1 (omega arith))
  all-rising (x ∷ xs) from h (suc k) lt = let one : suc k + 1 ≡ suc (k + 1) = omega arith in
      rw one (all-rising xs (x + 1) h.1.1.1 k (omega arith))

  pub all-each : (xs : List ℕ) (from : ℕ) → AreAllFrom Has from xs → All Has xs
  all-each [] from h k d lt = absurd (omega arith)
  all-each (x ∷ xs) from h zero d lt = h.1.0
  all-each (x ∷ xs) from h (suc k) d lt = all-each xs (x + 1) h.1.1.1 k d (omega arith)

  pub all-contains : (xs : List ℕ) (from n : ℕ) → AreAllFrom Has from xs → from ≤ n → Has n → Contains xs n
  all-contains [] from n h le has = absurd (h n le has)
  all-contains (x ∷ xs) from n h le has = ⊎_elim
      (λ less. absurd (h.1.1.0 n le less has))
      (λ more. ⊎_elim
      (λ e. (0, omega arith, sym e))
      (λ other. let w = all-contains xs (x + 1) n h.1.1.1 (omega (arith, more, other)) has in (suc w.0, omega (arith, w.1), w.2))
      (cases_eq n x))
      (cases_lt n x)
