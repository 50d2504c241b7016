-- The laws of lists that the crates above share: what is read at a place, and a list with one element more.
use Rattle.std.proofs.Common.{◌≡◌, ℕ, zero, suc, ◌+◌, ◌<◌, List, [], ◌∷◌, ◌++◌, length, take, get_or, refl, sym, ap, ◌∙◌, subst, Some, None}
use Rattle.std.proofs.Common.{◌⊎◌, inl, inr, ⊎_elim, arith}
use Rattle.std.specs.Prelude.{Option, IfSome, Contains, map, slice_get, slice_index, IsSomeAnd, option_map}
use Rattle.std.proofs.lemmas.List.{take_more}
use Rattle.std.proofs.lemmas.Option.{slice_get-get_or, slice_get-map}
use Rattle.std.proofs.lemmas.List.Elements.{Contains-push_cases}

-- ---- what is read at a place

-- a place at which something holds of what is there is inside the list
pub holds-inside : {A : Type 0} → (P : A → Type 0) (xs : List A) (place : ℕ) → IsSomeAnd (slice_get xs place) P → place < length xs
holds-inside P [] place there = absurd there
holds-inside P (y ∷ ys) zero there = omega arith
holds-inside P (y ∷ ys) (suc place) there = omega (arith, holds-inside P ys place there)

pub get-there : {A : Type 0} → (xs : List A) (place : ℕ) → place < length xs → (x : A) × (slice_get xs place ≡ Some x)
get-there [] place inside = absurd (omega arith)
get-there (y ∷ ys) zero inside = (y, refl)
get-there (y ∷ ys) (suc place) inside = get-there ys place (omega arith)

pub read-index : (xs : List ℕ) (place x : ℕ) → place < length xs → x ≡ get_or xs place x → x ≡ slice_index xs place
read-index [] place x inside read = absurd (omega arith)
read-index (y ∷ ys) zero x inside read = read
read-index (y ∷ ys) (suc place) x inside read = read-index ys place x (omega arith) read

pub read-or : {A : Type 0} → (xs : List A) (place : ℕ) (x other : A) → place < length xs → x ≡ get_or xs place x → get_or xs place other ≡ x
read-or [] place x other inside read = absurd (omega arith)
read-or (y ∷ ys) zero x other inside read = sym read
read-or (y ∷ ys) (suc place) x other inside read = read-or ys place x other (omega arith) read

pub get-map : {A B : Type 0} → (f : A → B) (xs : List A) (place : ℕ) (x : A) → slice_get xs place ≡ Some x
    → slice_get (map f xs) place ≡ Some (f x)
get-map f xs place x e = slice_get-map f xs place ∙ ap (option_map f) e

pub get-map_none : {A B : Type 0} → (f : A → B) (xs : List A) (place : ℕ) → slice_get xs place ≡ None → slice_get (map f xs) place ≡ None
get-map_none f xs place e = slice_get-map f xs place ∙ ap (option_map f) e

-- what holds at each place holds of each element
pub of_contained : {X : Type 0} (P : X → Type 0) (items : List X) (item : X) → ((k : ℕ) → IfSome (slice_get items k) P)
    → Contains items item → P item
of_contained {X} P items item each found = let Q : Option X → Type 0 = λ o. IfSome o P in
    subst Q (slice_get-get_or items found.0 item found.1 ∙ ap Some found.2) (each found.0)

-- ---- a longer list

pub get-append : {A : Type 0} → (xs more : List A) (place : ℕ) (x : A) → slice_get xs place ≡ Some x → slice_get (xs ++ more) place ≡ Some x
get-append [] more place x e = cc
get-append (y ∷ ys) more zero x e = e
get-append (y ∷ ys) more (suc place) x e = get-append ys more place x e

pub get-append_before : {A : Type 0} → (xs more : List A) (place : ℕ) → place < length xs
    → slice_get (xs ++ more) place ≡ slice_get xs place
get-append_before [] more place inside = absurd (omega arith)
get-append_before (y ∷ ys) more zero inside = refl
get-append_before (y ∷ ys) more (suc place) inside = get-append_before ys more place (omega arith)

-- ---- one element more

pub get-push : {A : Type 0} → (xs : List A) (x y : A) (place : ℕ) → slice_get (xs ++ x ∷ []) place ≡ Some y
    → (slice_get xs place ≡ Some y) ⊎ ((place ≡ length xs) × (y ≡ x))
get-push [] x y zero e = inr (refl, cc)
get-push [] x y (suc place) e = cc
get-push (z ∷ zs) x y zero e = inl e
get-push (z ∷ zs) x y (suc place) e = ⊎_elim (λ w. inl w) (λ w. inr (ap suc w.0, w.1)) (get-push zs x y place e)

pub get-push_before : {A : Type 0} → (xs : List A) (more : A) (place : ℕ) (x : A) → slice_get xs place ≡ Some x
    → slice_get (xs ++ more ∷ []) place ≡ Some x
get-push_before xs more place x e = get-append xs (more ∷ []) place x e

pub get-push_last : {A : Type 0} → (xs : List A) (x : A) → slice_get (xs ++ x ∷ []) (length xs) ≡ Some x
get-push_last [] x = refl
get-push_last (z ∷ zs) x = get-push_last zs x

-- the part of a list that has been read, with the element that is read next
pub take-read : {A : Type 0} → (xs : List A) (i : ℕ) (x : A) → i < length xs → x ≡ get_or xs i x → take (i + 1) xs ≡ take i xs ++ x ∷ []
take-read xs i x lt is = take_more xs i x lt ∙ ap (λ y. take i xs ++ y ∷ []) (sym is)

-- what holds of each element that has been read, and of the next one
pub all_read-more : {A : Type 0} → (P : A → Type 0) (xs : List A) (i : ℕ) (x : A) → i < length xs → x ≡ get_or xs i x
    → ((y : A) → Contains (take i xs) y → P y) → P x → (y : A) → Contains (take (i + 1) xs) y → P y
all_read-more P xs i x lt is before here y h =
    ⊎_elim (before y) (λ e. subst P e here) (Contains-push_cases (take i xs) x y (rw (take-read xs i x lt is) at h))
