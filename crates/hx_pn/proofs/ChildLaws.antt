-- One child more: the least delta and the sum of phi so far, and the best child so far with the least delta of the
-- others. Where the new child's delta is below the best so far, it is the best, and the least delta of the others is
-- that of the old best.
use Rattle.std.proofs.Common.{◌≡◌, ℕ, zero, suc, ◌+◌, ◌<◌, ◌≤◌, List, [], ◌∷◌, ◌++◌, take, length, get_or, refl, sym, ap, ◌∙◌, arith, Some}
use Rattle.std.proofs.Common.{◌⊎◌, inl, inr, ⊎_elim}
use Rattle.std.specs.Prelude.{min, sum_by, slice_get}
use Rattle.std.specs.List.{All}
use Rattle.std.proofs.lemmas.List.{take_more}
use Rattle.std.proofs.lemmas.List.Sums.{sum_by-append, sum_by-cons}
use Rattle.std.proofs.lemmas.Option.{slice_get_within}
use Rattle.hx_pn.specs.declared.proof_numbers.Numbers.{Numbers}
use Rattle.hx_pn.specs.declared.descents.Best.{Best}
use Rattle.hx_pn.specs.declared.proof_numbers.TheConstants.{INF}
use Rattle.hx_pn.specs.Numbers.{IsNumbers, least_delta, second_delta, IsBest}

least_delta-push : (xs : List Numbers) (x : Numbers) → IsNumbers x → least_delta (xs ++ x ∷ []) ≡ min (least_delta xs) x.delta
least_delta-push [] x is = omega (arith, is.delta)
least_delta-push (y ∷ xs) x is = let rest = least_delta-push xs x is in omega (arith, rest)

pub least_delta-small : (xs : List Numbers) → least_delta xs ≤ INF
least_delta-small [] = omega arith
least_delta-small (x ∷ xs) = let rest = least_delta-small xs in omega (arith, rest)

pub least_delta-more : (xs : List Numbers) (i : ℕ) (d : Numbers) → i < length xs → All IsNumbers xs
    → least_delta (take (i + 1) xs) ≡ min (least_delta (take i xs)) (get_or xs i d).delta
least_delta-more xs i d less each = ap least_delta (take_more xs i d less) ∙ least_delta-push (take i xs) (get_or xs i d) (each i d less)

pub phi_sum-more : (xs : List Numbers) (i : ℕ) (d : Numbers) → i < length xs
    → sum_by (λ (x : Numbers). x.phi) (take (i + 1) xs) ≡ sum_by (λ (x : Numbers). x.phi) (take i xs) + (get_or xs i d).phi
phi_sum-more xs i d less =
    let whole = ap (sum_by (λ (x : Numbers). x.phi)) (take_more xs i d less)
    ∙ sum_by-append (λ (x : Numbers). x.phi) (take i xs) (get_or xs i d ∷ []) in
    omega (arith, whole)

-- ---- the best child

second_delta-push : (xs : List Numbers) (x : Numbers) (place : ℕ) → place < length xs → IsNumbers x
    → second_delta (xs ++ x ∷ []) place ≡ min (second_delta xs place) x.delta
second_delta-push [] x place less is = absurd (omega arith)
second_delta-push (y ∷ xs) x zero less is = least_delta-push xs x is
second_delta-push (y ∷ xs) x (suc place) less is = let rest = second_delta-push xs x place (omega arith) is in omega (arith, rest)

second_delta-last : (xs : List Numbers) (x : Numbers) → second_delta (xs ++ x ∷ []) (length xs) ≡ least_delta xs
second_delta-last [] x = refl
second_delta-last (y ∷ xs) x = ap (min y.delta) (second_delta-last xs x)

get-push : (xs : List Numbers) (x y : Numbers) (k : ℕ) → slice_get (xs ++ x ∷ []) k ≡ Some y
    → ((k < length xs) × (slice_get xs k ≡ Some y)) ⊎ ((k ≡ length xs) × (x ≡ y))
get-push [] x y zero e = inr (refl, cc)
get-push [] x y (suc k) e = cc
get-push (z ∷ xs) x y zero e = inl (omega arith, e)
get-push (z ∷ xs) x y (suc k) e = ⊎_elim (λ w. inl (omega (arith, w.0), w.1)) (λ w. inr (ap suc w.0, w.1)) (get-push xs x y k e)

get-before : (xs : List Numbers) (x y : Numbers) (k : ℕ) → slice_get xs k ≡ Some y → slice_get (xs ++ x ∷ []) k ≡ Some y
get-before [] x y k e = cc
get-before (z ∷ xs) x y zero e = e
get-before (z ∷ xs) x y (suc k) e = get-before xs x y k e

get-last : (xs : List Numbers) (x : Numbers) → slice_get (xs ++ x ∷ []) (length xs) ≡ Some x
get-last [] x = refl
get-last (z ∷ xs) x = get-last xs x

-- each delta is the least one at the least
at_least : (xs : List Numbers) (y : Numbers) (k : ℕ) → slice_get xs k ≡ Some y → least_delta xs ≤ y.delta
at_least [] y k e = cc
at_least (z ∷ xs) y zero e = let same : z ≡ y = cc in omega (arith, ap (λ (n : Numbers). n.delta) same)
at_least (z ∷ xs) y (suc k) e = omega (arith, at_least xs y k e)

pub first_is_best : (x : Numbers) (best : Best) → IsNumbers x → best.place ≡ 0 → best.child ≡ x → best.second ≡ INF → IsBest (x ∷ []) best
first_is_best x best is place child second = record {
  chosen = record {
    there = rw (place, child) refl;
    least = rw child (omega (arith, is.delta));
    first = λ other earlier less e. absurd (omega (arith, place));
  };
  second = rw (second, place) refl;
}

module _ (xs : List Numbers) (x : Numbers) (best : Best) (is : IsNumbers x) (before : IsBest xs best) where
  pub new_is_best : (now : Best) → x.delta < best.child.delta → now.place ≡ length xs → now.child ≡ x → now.second ≡ best.child.delta
      → IsBest (xs ++ x ∷ []) now
  new_is_best now less place child second = record {
    chosen = record {
      there = rw (place, child) (get-last xs x);
      least = rw child (omega (arith, least_delta-push xs x is, before.chosen.least));
      first = λ other earlier below e. ⊎_elim
          (λ w. rw child (omega (arith, at_least xs earlier other w.1, before.chosen.least)))
          (λ w. absurd (omega (arith, w.0, place)))
          (get-push xs x earlier other e);
    };
    second = second ∙ before.chosen.least ∙ sym (ap (second_delta (xs ++ x ∷ [])) place ∙ second_delta-last xs x);
  }

  pub old_is_best : (now : Best) → best.child.delta ≤ x.delta → now.place ≡ best.place → now.child ≡ best.child
      → now.second ≡ min best.second x.delta → IsBest (xs ++ x ∷ []) now
  old_is_best now le place child second = record {
    chosen = record {
      there = rw (place, child) (get-before xs x best.child best.place before.chosen.there);
      least = rw child (omega (arith, least_delta-push xs x is, before.chosen.least));
      first = λ other earlier below e. ⊎_elim
          (λ w. rw child (before.chosen.first other earlier (omega (arith, place)) w.1))
          (λ w. absurd (omega (arith, w.0, place, slice_get_within xs best.place best.child before.chosen.there)))
          (get-push xs x earlier other e);
    };
    second = second ∙ ap (λ (n : ℕ). min n x.delta) before.second
        ∙ sym (ap (second_delta (xs ++ x ∷ [])) place
        ∙ second_delta-push xs x best.place (slice_get_within xs best.place best.child before.chosen.there) is);
  }

-- ---- bounds

pub second_delta-small : (xs : List Numbers) (place : ℕ) → second_delta xs place ≤ INF
second_delta-small [] place = omega arith
second_delta-small (x ∷ xs) zero = least_delta-small xs
second_delta-small (x ∷ xs) (suc place) = omega (arith, second_delta-small xs place)

pub numbers_at : (xs : List Numbers) (y : Numbers) (k : ℕ) → All IsNumbers xs → slice_get xs k ≡ Some y → IsNumbers y
numbers_at [] y k each e = cc
numbers_at (z ∷ xs) y zero each e = let same : z ≡ y = cc in rw same at (each 0 z (omega arith))
numbers_at (z ∷ xs) y (suc k) each e = numbers_at xs y k (λ j d less. each (suc j) d (omega arith)) e

-- a child's phi is no more than the sum of all, unless the sum stops before
pub phi-le-sum : (xs : List Numbers) (y : Numbers) (k : ℕ) → slice_get xs k ≡ Some y → y.phi ≤ sum_by (λ (x : Numbers). x.phi) xs
phi-le-sum [] y k e = cc
phi-le-sum (z ∷ xs) y zero e = let same : z ≡ y = cc in
    omega (arith, ap (λ (n : Numbers). n.phi) same, sum_by-cons (λ (x : Numbers). x.phi) z xs)
phi-le-sum (z ∷ xs) y (suc k) e = omega (arith, phi-le-sum xs y k e, sum_by-cons (λ (x : Numbers). x.phi) z xs)
