-- A list with one item changed.
use Rattle.std.proofs.Common.{◌≡◌, ◌≢◌, ℕ, zero, suc, ◌+◌, ◌<◌, ◌≤◌, List, [], ◌∷◌, length, get_or, set, refl, ap, ◌∙◌, arith}
use Rattle.std.specs.List.{sum_by}
use Rattle.std.proofs.lemmas.List.Sums.{sum_by-cons, sum_by-set}
use Rattle.hx_count.specs.Machine.{changed_at}

module _ {A : Type 0} where
  changed-set : (change : A → A) (xs : List A) (place : ℕ) (d : A) → place < length xs
      → changed_at change xs place ≡ set xs place (change (get_or xs place d))
  changed-set change [] place d less = refl
  changed-set change (x ∷ xs) zero d less = refl
  changed-set change (x ∷ xs) (suc place) d less = ap (λ l. x ∷ l) (changed-set change xs place d (omega arith))

  pub length-changed : (change : A → A) (xs : List A) (place : ℕ) → length (changed_at change xs place) ≡ length xs
  length-changed change [] place = refl
  length-changed change (x ∷ xs) zero = refl
  length-changed change (x ∷ xs) (suc place) = ap suc (length-changed change xs place)

  pub changed-here : (change : A → A) (xs : List A) (place : ℕ) (d : A) → place < length xs
      → get_or (changed_at change xs place) place d ≡ change (get_or xs place d)
  changed-here change [] place d less = absurd (omega arith)
  changed-here change (x ∷ xs) zero d less = refl
  changed-here change (x ∷ xs) (suc place) d less = changed-here change xs place d (omega arith)

  pub changed-elsewhere : (change : A → A) (xs : List A) (place other : ℕ) (d : A) → place ≢ other
      → get_or (changed_at change xs place) other d ≡ get_or xs other d
  changed-elsewhere change [] place other d apart = refl
  changed-elsewhere change (x ∷ xs) zero zero d apart = absurd (apart refl)
  changed-elsewhere change (x ∷ xs) zero (suc other) d apart = refl
  changed-elsewhere change (x ∷ xs) (suc place) zero d apart = refl
  changed-elsewhere change (x ∷ xs) (suc place) (suc other) d apart =
      changed-elsewhere change xs place other d (λ same. apart (ap suc same))

  -- a second change that takes the first one back
  pub changed-back : (change back : A → A) → ((x : A) → back (change x) ≡ x) → (xs : List A) (place : ℕ)
      → changed_at back (changed_at change xs place) place ≡ xs
  changed-back change back takes_back [] place = refl
  changed-back change back takes_back (x ∷ xs) zero = ap (λ y. y ∷ xs) (takes_back x)
  changed-back change back takes_back (x ∷ xs) (suc place) = ap (λ l. x ∷ l) (changed-back change back takes_back xs place)

  -- a sum grows by what the changed item's term grows at the most
  pub sum_by-changed-le : (f : A → ℕ) (change : A → A) (more : ℕ) → ((x : A) → f (change x) ≤ f x + more) → (xs : List A) (place : ℕ)
      → sum_by f (changed_at change xs place) ≤ sum_by f xs + more
  sum_by-changed-le f change more most [] place = omega arith
  sum_by-changed-le f change more most (x ∷ xs) zero = omega (arith, sum_by-cons f x xs, sum_by-cons f (change x) xs, most x)
  sum_by-changed-le f change more most (x ∷ xs) (suc place) =
      omega (arith, sum_by-cons f x xs, sum_by-cons f x (changed_at change xs place), sum_by-changed-le f change more most xs place)

  -- a sum grows by what the changed item's term grows
  pub sum_by-changed : (f : A → ℕ) (change : A → A) (xs : List A) (place : ℕ) (d : A) → place < length xs
      → sum_by f (changed_at change xs place) + f (get_or xs place d) ≡ sum_by f xs + f (change (get_or xs place d))
  sum_by-changed f change xs place d less = ap (λ l. sum_by f l + f (get_or xs place d)) (changed-set change xs place d less)
      ∙ sum_by-set f xs place (change (get_or xs place d)) d less

  -- a change that every item's term survives changes no sum
  pub sum_by-unchanged : (f : A → ℕ) (change : A → A) (xs : List A) (place : ℕ) → ((x : A) → f (change x) ≡ f x)
      → sum_by f (changed_at change xs place) ≡ sum_by f xs
  sum_by-unchanged f change [] place same = refl
  sum_by-unchanged f change (x ∷ xs) zero same = omega (arith, sum_by-cons f x xs, sum_by-cons f (change x) xs, same x)
  sum_by-unchanged f change (x ∷ xs) (suc place) same =
      omega (arith, sum_by-cons f x xs, sum_by-cons f x (changed_at change xs place), sum_by-unchanged f change xs place same)
