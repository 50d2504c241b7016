-- One item of a list, and sums over a list of which one item changes.
use Rattle.std.proofs.Common.{◌≡◌, ◌≢◌, ℕ, zero, suc, ◌+◌, ◌<◌, ◌≤◌, List, [], ◌∷◌, length, get_or, set, sym, ◌∙◌, subst, arith}
use Rattle.std.specs.List.{sum_by}
use Rattle.std.proofs.lemmas.List.Sums.{sum_by-set, get_or-le-sum_by}
use mathlib.Core.Option.{some, some-injective, some-ne-none}
use lib.ListN.{get_elem?}
use Rattle.atomic_table.proofs.Lists.{set_else}

module _ {A : Type 0} where
  pub at-within : (xs : List A) (place : ℕ) (x : A) → get_elem? xs place ≡ some x → place < length xs
  at-within [] place x there = absurd (some-ne-none x (sym there))
  at-within (y ∷ ys) zero x there = omega arith
  at-within (y ∷ ys) (suc place) x there = omega (arith, at-within ys place x there)

  pub at-get : (xs : List A) (place : ℕ) (x d : A) → get_elem? xs place ≡ some x → get_or xs place d ≡ x
  at-get [] place x d there = absurd (some-ne-none x (sym there))
  at-get (y ∷ ys) zero x d there = some-injective y x there
  at-get (y ∷ ys) (suc place) x d there = at-get ys place x d there

  pub sum-set : (f : A → ℕ) (xs : List A) (place : ℕ) (x new : A) → get_elem? xs place ≡ some x
      → sum_by f (set xs place new) + f x ≡ sum_by f xs + f new
  sum-set f xs place x new there =
      subst (λ y. sum_by f (set xs place new) + f y ≡ sum_by f xs + f new) (at-get xs place x x there)
      (sum_by-set f xs place new x (at-within xs place x there))

  pub term-le : (f : A → ℕ) (xs : List A) (place : ℕ) (x : A) → get_elem? xs place ≡ some x → f x ≤ sum_by f xs
  term-le f xs place x there =
      subst (λ y. f y ≤ sum_by f xs) (at-get xs place x x there) (get_or-le-sum_by f xs place x (at-within xs place x there))

  -- where one term is 1 and the sum is at most 1, each other term is 0
  pub others-none : (f : A → ℕ) (xs : List A) (place other : ℕ) (x y none : A) → f none ≡ 0 → sum_by f xs ≤ 1 → f x ≡ 1 → other ≢ place
      → get_elem? xs place ≡ some x → get_elem? xs other ≡ some y → f y ≡ 0
  others-none f xs place other x y none is_none one own apart there also =
      let rest : get_elem? (set xs place none) other ≡ some y = set_else xs place other none apart ∙ also in
      omega (arith, sum-set f xs place x none there, term-le f (set xs place none) other y rest, is_none, one, own)
