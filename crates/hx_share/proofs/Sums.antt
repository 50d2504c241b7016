-- A sum over a list of which one item has all.
use Rattle.std.proofs.Common.{◌≡◌, ℕ, ◌≤◌, List, [], ◌∷◌, set, arith}
use Rattle.std.specs.List.{sum_by}
use Rattle.std.proofs.lemmas.List.Sums.{sum_by-cons}
use mathlib.Core.Option.{some}
use lib.ListN.{get_elem?}
use Rattle.hx_count.proofs.Terms.{sum-set}

module _ {A : Type 0} where
  sum_by-le : (f g : A → ℕ) → ((x : A) → f x ≤ g x) → (xs : List A) → sum_by f xs ≤ sum_by g xs
  sum_by-le f g less [] = omega arith
  sum_by-le f g less (x ∷ xs) = omega (arith, sum_by-cons f x xs, sum_by-cons g x xs, less x, sum_by-le f g less xs)

  -- where one term has all that is summed of the greater terms, it has all that is summed of the smaller ones
  pub sum-whole : (f g : A → ℕ) → ((x : A) → f x ≤ g x) → (xs : List A) (place : ℕ) (x none : A) → g none ≡ 0 → get_elem? xs place ≡ some x
      → sum_by g xs ≡ g x → sum_by f xs ≡ f x
  sum-whole f g less xs place x none is_none there whole =
      omega (
        arith,
        sum-set f xs place x none there,
        sum-set g xs place x none there,
        is_none,
        less none,
        whole,
        sum_by-le f g less (set xs place none),
      )
