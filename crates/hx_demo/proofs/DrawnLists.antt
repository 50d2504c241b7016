-- Cells that are drawn from a list: one after the other, from what is left after those before. So each is of the list,
-- and none is drawn twice where none stands in the list twice.
use Rattle.std.proofs.Common.{◌≡◌, ℕ, zero, suc, ◌+◌, ◌<◌, ◌≤◌, List, [], ◌∷◌, ◌++◌, length, refl, sym, ap, subst, ◌⊎◌, inl, inr, arith}
use Rattle.std.specs.Prelude.{slice_index, remove}
use Rattle.std.proofs.lemmas.List.Edits.{length-remove}
use Rattle.hx_demo.specs.DrawnPositions.{place_of, drawn_from}
use Rattle.hx_demo.specs.CellsLeft.{left_after}

-- ---- words one after the other

pub drawn_from-append : (cells words more : List ℕ) → drawn_from cells (words ++ more) ≡ drawn_from cells words
    ++ drawn_from (left_after cells words) more
drawn_from-append cells [] more = refl
drawn_from-append cells (word ∷ words) more =
    ap (λ (drawn : List ℕ). slice_index cells (place_of word cells) ∷ drawn)
    (drawn_from-append (remove cells (place_of word cells)) words more)

pub left_after-append : (cells words more : List ℕ) → left_after cells (words ++ more) ≡ left_after (left_after cells words) more
left_after-append cells [] more = refl
left_after-append cells (word ∷ words) more = left_after-append (remove cells (place_of word cells)) words more

pub length-drawn_from : (cells words : List ℕ) → length (drawn_from cells words) ≡ length words
length-drawn_from cells [] = refl
length-drawn_from cells (word ∷ words) = ap suc (length-drawn_from (remove cells (place_of word cells)) words)

pub place-lt : (word : ℕ) (cells : List ℕ) → 0 < length cells → place_of word cells < length cells
place-lt word cells some = omega arith

pub length-left : (word : ℕ) (cells : List ℕ) → 0 < length cells → length (remove cells (place_of word cells)) + 1 ≡ length cells
length-left word cells some = length-remove cells (place_of word cells) (place-lt word cells some)

pub length-left_after : (cells words : List ℕ) → length words ≤ length cells → length (left_after cells words) + length words ≡ length cells
length-left_after cells [] enough = omega arith
length-left_after cells (word ∷ words) enough =
    let one = length-left word cells (omega arith) in
    let rest = length-left_after (remove cells (place_of word cells)) words (omega arith) in omega arith

-- ---- members

abbrev pub IsIn : ℕ → List ℕ → Type 0
IsIn n [] = ⊥
IsIn n (x ∷ xs) = (n ≡ x) ⊎ IsIn n xs

abbrev pub AreDistinct : List ℕ → Type 0
AreDistinct [] = Unit {0}
AreDistinct (x ∷ xs) = (IsIn x xs → ⊥) × AreDistinct xs

pub in-left : (n : ℕ) (xs ys : List ℕ) → IsIn n xs → IsIn n (xs ++ ys)
in-left n [] ys h = absurd h
in-left n (x ∷ xs) ys (inl same) = inl same
in-left n (x ∷ xs) ys (inr h) = inr (in-left n xs ys h)

pub in-right : (n : ℕ) (xs ys : List ℕ) → IsIn n ys → IsIn n (xs ++ ys)
in-right n [] ys h = h
in-right n (x ∷ xs) ys h = inr (in-right n xs ys h)

pub distinct-left : (xs ys : List ℕ) → AreDistinct (xs ++ ys) → AreDistinct xs
distinct-left [] ys distinct = tt
distinct-left (x ∷ xs) ys distinct = ((λ h. distinct.0 (in-left x xs ys h)), distinct-left xs ys distinct.1)

pub distinct-right : (xs ys : List ℕ) → AreDistinct (xs ++ ys) → AreDistinct ys
distinct-right [] ys distinct = distinct
distinct-right (x ∷ xs) ys distinct = distinct-right xs ys distinct.1

in-index : (xs : List ℕ) (i : ℕ) → i < length xs → IsIn (slice_index xs i) xs
in-index [] i low = absurd (omega arith)
in-index (x ∷ xs) zero low = inl refl
in-index (x ∷ xs) (suc i) low = inr (in-index xs i (omega arith))

in-remove : (n : ℕ) (xs : List ℕ) (i : ℕ) → IsIn n (remove xs i) → IsIn n xs
in-remove n [] zero h = h
in-remove n [] (suc i) h = h
in-remove n (x ∷ xs) zero h = inr h
in-remove n (x ∷ xs) (suc i) (inl same) = inl same
in-remove n (x ∷ xs) (suc i) (inr h) = inr (in-remove n xs i h)

distinct-remove : (xs : List ℕ) (i : ℕ) → AreDistinct xs → AreDistinct (remove xs i)
distinct-remove [] zero distinct = distinct
distinct-remove [] (suc i) distinct = distinct
distinct-remove (x ∷ xs) zero distinct = distinct.1
distinct-remove (x ∷ xs) (suc i) distinct = ((λ h. distinct.0 (in-remove x xs i h)), distinct-remove xs i distinct.1)

removed-not_in : (xs : List ℕ) (i : ℕ) → i < length xs → AreDistinct xs → IsIn (slice_index xs i) (remove xs i) → ⊥
removed-not_in [] i low distinct h = absurd (omega arith)
removed-not_in (x ∷ xs) zero low distinct h = distinct.0 h
removed-not_in (x ∷ xs) (suc i) low distinct (inl same) =
    distinct.0 (let P : ℕ → Type 0 = λ n. IsIn n xs in subst P same (in-index xs i (omega arith)))
removed-not_in (x ∷ xs) (suc i) low distinct (inr h) = removed-not_in xs i (omega arith) distinct.1 h

-- ---- what is drawn is of the list, and distinct

pub drawn-in : (n : ℕ) (cells words : List ℕ) → length words ≤ length cells → IsIn n (drawn_from cells words) → IsIn n cells
drawn-in n cells [] enough h = absurd h
drawn-in n cells (word ∷ words) enough (inl same) =
    let P : ℕ → Type 0 = λ k. IsIn k cells in subst P (sym same) (in-index cells (place_of word cells) (place-lt word cells (omega arith)))
drawn-in n cells (word ∷ words) enough (inr h) =
    let one = length-left word cells (omega arith) in
    in-remove n cells (place_of word cells) (drawn-in n (remove cells (place_of word cells)) words (omega arith) h)

pub drawn-distinct : (cells words : List ℕ) → length words ≤ length cells → AreDistinct cells → AreDistinct (drawn_from cells words)
drawn-distinct cells [] enough distinct = tt
drawn-distinct cells (word ∷ words) enough distinct =
    let place : ℕ = place_of word cells in
    let low : place < length cells = place-lt word cells (omega arith) in
    let one : length (remove cells place) + 1 ≡ length cells = length-left word cells (omega arith) in (
      (λ h. removed-not_in cells place low distinct (drawn-in (slice_index cells place) (remove cells place) words (omega arith) h)),
      drawn-distinct (remove cells place) words (omega arith) (distinct-remove cells place distinct),
    )
