-- Lists with one item written: what is true of each item, and an item that is changed.
use Rattle.std.proofs.Common.{◌≡◌, ℕ, zero, suc, ◌<◌, ◌≤◌, List, [], ◌∷◌, length, set, get_or, ap, refl, arith}
use Rattle.hx_count.specs.Machine.{changed_at}

-- a bound of each number, and of the one that is written
pub set-le : (xs : List ℕ) (place x bound : ℕ) → ((j : ℕ) → get_or xs j 0 ≤ bound) → x ≤ bound → (k : ℕ)
    → get_or (set xs place x) k 0 ≤ bound
set-le [] place x bound each new k = each k
set-le (y ∷ ys) zero x bound each new zero = new
set-le (y ∷ ys) zero x bound each new (suc k) = each (suc k)
set-le (y ∷ ys) (suc place) x bound each new zero = each zero
set-le (y ∷ ys) (suc place) x bound each new (suc k) = set-le ys place x bound (λ j. each (suc j)) new k

-- no number gets less where the one that is written is not less
pub le-set : (xs : List ℕ) (place x : ℕ) → get_or xs place 0 ≤ x → (k : ℕ) → get_or xs k 0 ≤ get_or (set xs place x) k 0
le-set [] place x more k = omega arith
le-set (y ∷ ys) zero x more zero = more
le-set (y ∷ ys) zero x more (suc k) = omega arith
le-set (y ∷ ys) (suc place) x more zero = omega arith
le-set (y ∷ ys) (suc place) x more (suc k) = le-set ys place x more k

-- a number that is not 0 is one of the list
pub positive-lt : (xs : List ℕ) (place : ℕ) → 0 < get_or xs place 0 → place < length xs
positive-lt [] place some = absurd (omega arith)
positive-lt (x ∷ xs) zero some = omega arith
positive-lt (x ∷ xs) (suc place) some = omega (arith, positive-lt xs place some)

-- a write of the changed item
pub set-changed : {A : Type 0} → (change : A → A) (xs : List A) (place : ℕ) (x : A) → place < length xs → x ≡ get_or xs place x
    → set xs place (change x) ≡ changed_at change xs place
set-changed change [] place x less read = refl
set-changed change (y ∷ ys) zero x less read = ap (λ z. change z ∷ ys) read
set-changed change (y ∷ ys) (suc place) x less read = ap (λ zs. y ∷ zs) (set-changed change ys place x (omega arith) read)
