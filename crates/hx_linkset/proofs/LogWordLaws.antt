-- The words beside the log, as places come and go.
use Rattle.std.proofs.Common.{◌≡◌, ◌≢◌, ℕ, ◌+◌, ◌*◌, ◌-◌, ◌/◌, ◌%◌, ◌^◌, ◌<◌, ◌≤◌, Bool, true, false, not, ◌&&◌, ◌||◌, List, [], ◌∷◌, ◌++◌, length, take, get_or, replicate}
use Rattle.std.proofs.Common.{eqb, eqb-true, eq-eqb, refl, sym, ap, ◌∙◌, subst, ⊎_elim, arith}
use Rattle.std.proofs.Math.ListN.{set}
use Rattle.std.proofs.lemmas.Bool.{false≢true, false_from_ne_true, cases_eq, or_left, or_cases}
use Rattle.std.proofs.lemmas.Cmp.{nat_eq_equiv}
use Rattle.std.proofs.lemmas.List.{get_or-set_same, get_or-set_other, length-set, length-replicate, get_or-replicate, take_all}
use Rattle.std.proofs.lemmas.List.Folds.{list_any-append}
use Rattle.std.proofs.lemmas.Map.Keys.{IsDistinct-push}
use Rattle.std.proofs.lemmas.Nat.{div-add-mod'}
use Rattle.std.proofs.lemmas.Nat.Bits.{bit_at_ones}
use Rattle.std.specs.Prelude.{slice_index}
use Rattle.std.specs.List.{list_any, AllByRecursion, IsDistinct}
use Rattle.hx_board.specs.Sets.{has, remove, insert}
use Rattle.hx_board.proofs.ListLaws.{take-read}
use Rattle.hx_board.proofs.SetLaws.{same_test, has-insert, has-remove}
use Rattle.hx_linkset.specs.Held.{IsIn}
use Rattle.hx_linkset.specs.Logs.{AreOthers, IsLog}
use Rattle.hx_linkset.proofs.DroppedLaws.{in-front, in-back, in-either}
use Rattle.hx_linkset.proofs.TouchLaws.{below-block}

-- ---- the last place of a log

all-front : (P : ℕ → Type 0) (xs : List ℕ) (y : ℕ) → AllByRecursion P (xs ++ y ∷ []) → AllByRecursion P xs
all-front P [] y all = tt
all-front P (x ∷ xs) y all = (all.0, all-front P xs y all.1)

all-last : (P : ℕ → Type 0) (xs : List ℕ) (y : ℕ) → AllByRecursion P (xs ++ y ∷ []) → P y
all-last P [] y all = all.0
all-last P (x ∷ xs) y all = all-last P xs y all.1

distinct-front : (xs : List ℕ) (y : ℕ) → IsDistinct eqb (xs ++ y ∷ []) → IsDistinct eqb xs
unfolding IsDistinct
distinct-front [] y d = tt
distinct-front (x ∷ xs) y d = (all-front (λ z. eqb x z ≡ false) xs y d.0, distinct-front xs y d.1)

distinct-last : (xs : List ℕ) (y : ℕ) → IsDistinct eqb (xs ++ y ∷ []) → IsIn xs y → ⊥
unfolding IsDistinct
distinct-last [] y d k = false≢true k
distinct-last (x ∷ xs) y d k = ⊎_elim
    (λ same. false≢true (sym (all-last (λ z. eqb x z ≡ false) xs y d.0) ∙ eq-eqb x y (sym (eqb-true y x same))))
    (λ rest. distinct-last xs y d.1 rest)
    (or_cases _ _ k)

some-length : (xs : List ℕ) → xs ≢ [] → 0 < length xs
some-length [] some = absurd (some refl)
some-length (x ∷ xs) some = omega arith

-- a log that is not empty, told as its front and its last place
front-and-last : (xs : List ℕ) (x : ℕ) → xs ≢ [] → x ≡ get_or xs (length xs - 1) x → xs ≡ take (length xs - 1) xs ++ x ∷ []
front-and-last xs x some last =
    let long : 0 < length xs = some-length xs some in
    let one : length xs ≡ length xs - 1 + 1 = omega (arith, long) in
    let all : take (length xs) xs ≡ xs = take_all (length xs) xs (let le : length xs ≤ length xs = omega arith in le) in
    sym all ∙ (ap (λ n. take n xs) one ∙ take-read xs (length xs - 1) x (omega (arith, long)) last)

-- ---- tests

other-test : (a b : Bool) → b ≡ false → not (a || (b || false)) ≡ not a
other-test true b e = refl
other-test false b e = rw e refl

pushed-test : (a b : Bool) → (not a && not b) ≡ not (a || (b || false))
pushed-test true true = refl
pushed-test true false = refl
pushed-test false true = refl
pushed-test false false = refl

popped-test : (a b : Bool) → (b ≡ true → a ≡ false) → (b || not (a || (b || false))) ≡ not a
popped-test a true once = sym (ap not (once refl))
popped-test true false once = refl
popped-test false false once = refl

-- ---- no place

-- each number is in a word of ones alone
has-ones : (number : ℕ) → number < 64 → has (2 ^ 64 - 1) number ≡ true
unfolding has
has-ones number small = ap (λ (b : ℕ). eqb b 1) (bit_at_ones 64 number small)

pub log-none : (words : List ℕ) (capacity : ℕ) → 8192 ≤ capacity → words ≡ replicate 128 (2 ^ 64 - 1) → IsLog [] words capacity
unfolding IsDistinct
log-none words capacity room ones = record {
  room = room;
  small = λ place there. absurd (false≢true there);
  distinct = tt;
  long = ap (length {A = ℕ}) ones ∙ length-replicate 128 (2 ^ 64 - 1);
  others = λ block inside number small.
      ap (λ (ws : List ℕ). has (slice_index ws block) number) ones
      ∙ (ap (λ (word : ℕ). has word number) (get_or-replicate 128 block (2 ^ 64 - 1) 0 inside) ∙ has-ones number small);
}

-- ---- a place more, and one fewer

module _ (places words : List ℕ) (capacity place : ℕ) (long : length words ≡ 128) (less : place < 8192) where
  abbrev at : ℕ
  at = place / 64

  abbrev word : ℕ
  word = slice_index words at

  inside : at < length words
  inside = omega (arith, long, less, div-add-mod' place 64)

  abbrev AreOthersNow : List ℕ → ℕ → ℕ → Type 0
  AreOthersNow log other block = AreOthers log block (slice_index (set words at other) block)

  -- where the word of the place's block is another
  by-block : (log : List ℕ) (other block : ℕ) → AreOthers log at other
      → (block ≢ at → AreOthers log block (slice_index words block)) → AreOthersNow log other block
  by-block log other block here there = ⊎_elim
      (λ same. let P : ℕ → Type 0 = λ b. AreOthersNow log other b in
      let Q : ℕ → Type 0 = λ w. AreOthers log at w in
      subst P (sym same) (subst Q (sym (get_or-set_same words at other 0 inside)) here))
      (λ ne. let Q : ℕ → Type 0 = λ w. AreOthers log block w in
      subst Q (sym (get_or-set_other words at block other 0 ne)) (there ne))
      (cases_eq block at)

  -- the number is that of the place
  same-number : (number : ℕ) → eqb number (place % 64) ≡ eqb (64 * at + number) place
  same-number number = same_test _ _
      (λ e. eq-eqb _ _ (omega (arith, eqb-true number (place % 64) e, div-add-mod' place 64)))
      (λ e. eq-eqb _ _ (omega (arith, eqb-true (64 * at + number) place e, div-add-mod' place 64)))

  other-number : (block number : ℕ) → block ≢ at → number < 64 → eqb (64 * block + number) place ≡ false
  other-number block number ne small = false_from_ne_true _
      (λ e. ne (omega (arith, eqb-true (64 * block + number) place e, small, below-block place, div-add-mod' place 64)))

  any-more : (other : ℕ) → list_any (eqb other) (places ++ place ∷ []) ≡ (list_any (eqb other) places || (eqb other place || false))
  any-more other = list_any-append (eqb other) places (place ∷ [])

  pub log-push : IsLog places words capacity → (IsIn places place → ⊥)
      → IsLog (places ++ place ∷ []) (set words at (remove word (place % 64))) capacity
  log-push is off = record {
    room = is.room;
    small = λ other. in-either places (place ∷ []) other (is.small other)
        (λ last. ⊎_elim (λ e. let same : other ≡ place = eqb-true other place e in omega (arith, same, less)) (λ none. absurd (false≢true none)) (or_cases _ _ last));
    long = length-set words at (remove word (place % 64)) ∙ long;
    distinct = IsDistinct-push nat_eq_equiv places place is.distinct (false_from_ne_true _ off);
    others = λ block in_words. by-block (places ++ place ∷ []) (remove word (place % 64)) block
        (λ number small.
        has-remove word (place % 64) number
        ∙ (ap (λ b. b && not (eqb number (place % 64))) (is.others at (omega (arith, inside, long)) number small)
        ∙ (ap (λ b. not (list_any (eqb (64 * at + number)) places) && not b) (same-number number)
        ∙ (pushed-test _ _ ∙ sym (ap not (any-more (64 * at + number)))))))
        (λ ne number small.
        is.others block in_words number small
        ∙ (sym (other-test _ _ (other-number block number ne small)) ∙ sym (ap not (any-more (64 * block + number)))));
  }

  log-front : IsLog (places ++ place ∷ []) words capacity → IsLog places (set words at (insert word (place % 64))) capacity
  log-front is = record {
    room = is.room;
    small = λ other there. is.small other (in-front places (place ∷ []) other there);
    long = length-set words at (insert word (place % 64)) ∙ long;
    distinct = distinct-front places place is.distinct;
    others = λ block in_words. by-block places (insert word (place % 64)) block
        (λ number small.
        has-insert word (place % 64) number
        ∙ (ap (λ b. b || has word number) (same-number number)
        ∙ (ap (λ b. eqb (64 * at + number) place || b)
        (is.others at (omega (arith, inside, long)) number small ∙ ap not (any-more (64 * at + number)))
        ∙ popped-test _ _ (λ e. false_from_ne_true _ (λ there. distinct-last places place is.distinct
        (let P : ℕ → Type 0 = λ x. IsIn places x in subst P (eqb-true (64 * at + number) place e) there))))))
        (λ ne number small.
        is.others block in_words number small
        ∙ (ap not (any-more (64 * block + number)) ∙ other-test _ _ (other-number block number ne small)));
  }

module _ (places words : List ℕ) (capacity place : ℕ) (is : IsLog places words capacity) (some : places ≢ [])
    (last : place ≡ get_or places (length places - 1) place) where
  abbrev front : List ℕ
  front = take (length places - 1) places

  parts : places ≡ front ++ place ∷ []
  parts = front-and-last places place some last

  last-small : place < 8192
  last-small =
      let P : List ℕ → Type 0 = λ xs. IsIn xs place in
      is.small place (subst P (sym parts) (in-back front (place ∷ []) place (or_left _ _ (eq-eqb place place refl))))

  pub last-block : place / 64 < 128
  last-block = omega (arith, last-small, div-add-mod' place 64)

  pub log-pop : IsLog front (set words (place / 64) (insert (slice_index words (place / 64)) (place % 64))) capacity
  log-pop =
      let P : List ℕ → Type 0 = λ xs. IsLog xs words capacity in
      log-front front words capacity place is.long last-small (subst P parts is)
