-- Numbers of workers that each stand once in a list.
use Rattle.std.proofs.Common.{◌≡◌, ◌≢◌, ℕ, zero, suc, ◌+◌, ◌*◌, ◌<◌, ◌≤◌, cond, List, [], ◌∷◌, length, refl, sym, ap, ◌∙◌, arith}
use Rattle.std.specs.Prelude.{◌==◌}
use Rattle.std.specs.List.{sum_by, count_by}
use Rattle.std.proofs.lemmas.List.Sums.{sum_by-cons}
use mathlib.Core.Logic.{dite}
use native.Mathlib.Decide.{ℕ_discrete, dec_lt}
use Rattle.std.proofs.lemmas.Bool.{eq-eqb, ne_eqb}
use native.Mathlib.Nat.{add-mul, one-mul, mul-one}
use Rattle.hx_count.proofs.Sums.{upto, upto-same, upto-add, upto-zero}

-- 1 where two numbers are the same, else 0
abbrev pub one_same : ℕ → ℕ → ℕ
one_same number first = cond (first == number) 1 0

-- how often a number stands in a list
abbrev pub times : ℕ → List ℕ → ℕ
times number numbers = count_by (λ (n : ℕ). n == number) numbers

pub times-cons : (number first : ℕ) (numbers : List ℕ) → times number (first ∷ numbers) ≡ one_same number first + times number numbers
times-cons number first numbers = sum_by-cons (λ (n : ℕ). cond (n == number) 1 0) first numbers

pub same-one : (number first : ℕ) → first ≡ number → one_same number first ≡ 1
same-one number first same = ap (λ b. cond b 1 0) (eq-eqb first number same)

pub other-none : (number first : ℕ) → first ≢ number → one_same number first ≡ 0
other-none number first apart = ap (λ b. cond b 1 0) (ne_eqb first number apart)

-- one term of a sum, picked out by its number
upto-pick : (bound first : ℕ) (f : ℕ → ℕ) → (first < bound → upto bound (λ n. one_same n first * f n) ≡ f first)
    × (bound ≤ first → upto bound (λ n. one_same n first * f n) ≡ 0)
upto-pick zero first f = ((λ less. absurd (omega arith)), λ _. refl)
upto-pick (suc bound) first f = let before = upto-pick bound first f in (
  (λ less. dite (ℕ_discrete first bound)
      (λ same. omega (arith, before.1 (omega arith), ap (λ n. n * f bound) (same-one bound first same), ap f same))
      (λ apart. omega (arith, before.0 (omega arith), ap (λ n. n * f bound) (other-none bound first apart)))),
  λ far. omega (arith, before.1 (omega arith), ap (λ n. n * f bound) (other-none bound first (λ same. omega arith))),
)

-- numbers below the bound, each term as often as its number stands there
sum-times : (bound : ℕ) (numbers : List ℕ) (f : ℕ → ℕ) → ((n : ℕ) → bound ≤ n → times n numbers ≡ 0)
    → sum_by f numbers ≡ upto bound (λ n. times n numbers * f n)
sum-times bound [] f far = sym (upto-same bound (λ n. times n [] * f n) (λ n. 0) (λ k less. omega arith) ∙ upto-zero bound)
sum-times bound (first ∷ numbers) f far =
    let inside : first < bound =
    dite (dec_lt first bound) (λ less. less)
    (λ not_less. absurd (omega (arith, far first (omega arith), times-cons first first numbers, same-one first first refl))) in
    let rest : sum_by f numbers ≡ upto bound (λ n. times n numbers * f n) =
    sum-times bound numbers f (λ n above. omega (arith, far n above, times-cons n first numbers)) in
    let terms : upto bound (λ n. times n (first ∷ numbers) * f n) ≡ upto bound (λ n. one_same n first * f n + times n numbers * f n) =
    upto-same bound (λ n. times n (first ∷ numbers) * f n) (λ n. one_same n first * f n + times n numbers * f n)
    (λ n less. ap (λ m. m * f n) (times-cons n first numbers) ∙ add-mul (one_same n first) (times n numbers) (f n)) in
    omega (
      arith,
      sum_by-cons f first numbers,
      rest,
      terms,
      upto-add bound (λ n. one_same n first * f n) (λ n. times n numbers * f n),
      (upto-pick bound first f).0 inside,
    )

upto-le : (bound : ℕ) (f : ℕ → ℕ) → ((n : ℕ) → n < bound → f n ≤ 1) → upto bound f ≤ bound
upto-le zero f small = omega arith
upto-le (suc bound) f small = omega (arith, upto-le bound f (λ n less. small n (omega arith)), small bound (omega arith))

-- so many terms that are at most 1 and make the bound are all 1
full-ones : (bound : ℕ) (f : ℕ → ℕ) → ((n : ℕ) → n < bound → f n ≤ 1) → upto bound f ≡ bound → (n : ℕ) → n < bound → f n ≡ 1
full-ones zero f small full n less = absurd (omega arith)
full-ones (suc bound) f small full n less =
    let most = upto-le bound f (λ k below. small k (omega arith)) in
    let last = small bound (omega arith) in
    dite (ℕ_discrete n bound)
    (λ same. ap f same ∙ omega (arith, most, last, full))
    (λ apart. full-ones bound f (λ k below. small k (omega arith)) (omega (arith, most, last, full)) n (omega arith))

sum_by-ones : (numbers : List ℕ) → sum_by (λ n. 1) numbers ≡ length numbers
sum_by-ones [] = refl
sum_by-ones (first ∷ numbers) = omega (arith, sum_by-cons (λ n. 1) first numbers, sum_by-ones numbers)

-- as many numbers as the bound, below it and none twice, are all numbers below it
pub sum-once : (bound : ℕ) (numbers : List ℕ) (f : ℕ → ℕ) → length numbers ≡ bound → ((n : ℕ) → n < bound → times n numbers ≤ 1)
    → ((n : ℕ) → bound ≤ n → times n numbers ≡ 0)
    → sum_by f numbers ≡ upto bound f
sum-once bound numbers f long once never =
    let all : sum_by (λ n. 1) numbers ≡ upto bound (λ n. times n numbers * 1) = sum-times bound numbers (λ n. 1) never in
    let count : upto bound (λ n. times n numbers) ≡ bound =
    omega (
      arith,
      all,
      upto-same bound (λ n. times n numbers * 1) (λ n. times n numbers) (λ n less. mul-one (times n numbers)),
      sum_by-ones numbers,
      long,
    ) in
    sum-times bound numbers f never
    ∙ upto-same bound (λ n. times n numbers * f n) f
    (λ n less. ap (λ m. m * f n) (full-ones bound (λ k. times k numbers) once count n less) ∙ one-mul (f n))
