-- Sums over all numbers below a bound, and over lists.
use Rattle.std.proofs.Common.{◌≡◌, ℕ, zero, suc, ◌+◌, ◌<◌, List, [], ◌∷◌, length, get_or, refl, sym, ◌∙◌, arith}
use Rattle.std.specs.Prelude.{slice_index}
use Rattle.std.specs.List.{sum_by, sum}
use Rattle.std.proofs.lemmas.List.Sums.{sum_by-cons}

-- f 0 and so on, up to the term before the bound
abbrev pub upto : ℕ → (ℕ → ℕ) → ℕ
upto zero f = 0
upto (suc bound) f = upto bound f + f bound

pub upto-same : (bound : ℕ) (f g : ℕ → ℕ) → ((k : ℕ) → k < bound → f k ≡ g k) → upto bound f ≡ upto bound g
upto-same zero f g same = refl
upto-same (suc bound) f g same = omega (arith, upto-same bound f g (λ k less. same k (omega arith)), same bound (omega arith))

pub upto-add : (bound : ℕ) (f g : ℕ → ℕ) → upto bound (λ k. f k + g k) ≡ upto bound f + upto bound g
upto-add zero f g = refl
upto-add (suc bound) f g = omega (arith, upto-add bound f g)

pub upto-zero : (bound : ℕ) → upto bound (λ k. 0) ≡ 0
upto-zero zero = refl
upto-zero (suc bound) = omega (arith, upto-zero bound)

-- the first term stands apart
pub upto-first : (bound : ℕ) (f : ℕ → ℕ) → upto (suc bound) f ≡ f 0 + upto bound (λ k. f (suc k))
upto-first zero f = omega arith
upto-first (suc bound) f = omega (arith, upto-first bound f)

-- a list's sum, place by place
pub sum_by-upto : {A : Type 0} → (f : A → ℕ) (xs : List A) (d : A) → sum_by f xs ≡ upto (length xs) (λ k. f (get_or xs k d))
sum_by-upto f [] d = refl
sum_by-upto f (x ∷ xs) d = omega (arith, sum_by-cons f x xs, sum_by-upto f xs d, upto-first (length xs) (λ k. f (get_or (x ∷ xs) k d)))

pub sum-upto : (xs : List ℕ) → sum xs ≡ upto (length xs) (λ k. slice_index xs k)
sum-upto xs = sum_by-upto (λ x. x) xs 0

-- terms that agree place by place give one sum
pub sum_by-same : {A : Type 0} → (f g : A → ℕ) (xs : List A) (d : A) → ((k : ℕ) → k < length xs → f (get_or xs k d) ≡ g (get_or xs k d))
    → sum_by f xs ≡ sum_by g xs
sum_by-same f g xs d same = sum_by-upto f xs d
    ∙ (upto-same (length xs) (λ k. f (get_or xs k d)) (λ k. g (get_or xs k d)) same ∙ sym (sum_by-upto g xs d))

-- a sum of sums in the other order
pub upto-sum_by : {A : Type 0} → (bound : ℕ) (f : ℕ → A → ℕ) (xs : List A)
    → upto bound (λ k. sum_by (f k) xs) ≡ sum_by (λ x. upto bound (λ k. f k x)) xs
upto-sum_by bound f [] = upto-zero bound
upto-sum_by bound f (x ∷ xs) =
    let each : upto bound (λ k. sum_by (f k) (x ∷ xs)) ≡ upto bound (λ k. f k x + sum_by (f k) xs) =
    upto-same bound (λ k. sum_by (f k) (x ∷ xs)) (λ k. f k x + sum_by (f k) xs) (λ k less. sum_by-cons (f k) x xs) in
    omega (
      arith,
      each,
      upto-add bound (λ k. f k x) (λ k. sum_by (f k) xs),
      upto-sum_by bound f xs,
      sum_by-cons (λ y. upto bound (λ k. f k y)) x xs,
    )
