-- The rows of a block: what is read off them when the cells of a set are gone through, the lowest one first.
use Rattle.std.proofs.Common.{◌≡◌, ◌≢◌, ℕ, ◌+◌, ◌*◌, ◌-◌, ◌/◌, ◌%◌, ◌^◌, ◌<◌, ◌≤◌, true, List, length, bit_or, bit_and, bit_xor, eqb, sym, ap}
use Rattle.std.proofs.Common.{◌∙◌, subst, inl, inr, ◌⊎◌, ⊎_elim, arith}
use Rattle.std.proofs.Math.ListN.{set}
use Rattle.std.proofs.lemmas.Bool.{false≢true, cases_eq}
use Rattle.std.proofs.lemmas.List.{get_or-set_same, get_or-set_other, length-set}
use Rattle.std.proofs.lemmas.Nat.{one_shl, div-add-mod'}
use Rattle.std.proofs.lemmas.Nat.Bits.{bit_at-trailing_zeros, bit_at_cat_low, bit_at_mask_inside}
use Rattle.std.specs.Int.{bit_at}
use Rattle.std.specs.Int.Count.{count_trailing_zeros}
use Rattle.std.specs.Prelude.{slice_index}
use mir.Syntax.{w64}
use Rattle.hx_board.specs.Sets.{has, remove, insert, union, intersection, IsLowest}
use Rattle.hx_board.proofs.SetLaws.{has-empty, has-insert_same, has-insert_other, has-union_left, has-union_right, has-remove_other}
use Rattle.hx_board.proofs.SetLaws.{has-intersection_both}
use Rattle.hx_board.proofs.Lowest.{remove-lowest}

-- ---- a half of a set

pub low-half : (set n : ℕ) → n < 64 → has (set % 2 ^ 64) n ≡ has set n
unfolding has
low-half set n h =
    ap (λ (b : ℕ). eqb b 1)
    (sym (bit_at_cat_low (set / 2 ^ 64) 64 (set % 2 ^ 64) n h) ∙ ap (λ (x : ℕ). bit_at x n) (div-add-mod' set (2 ^ 64)))

-- the lowest number of a set of numbers below 64
pub record IsLowestOf (word n : ℕ) : Type 0 where
  pub small : n < 64
  pub lowest : IsLowest word n

pub lowest-of_word : (word : ℕ) → word ≢ 0 → word < 2 ^ 64 → IsLowestOf word (count_trailing_zeros 64 word)
unfolding has
lowest-of_word word some small =
    let t = bit_at-trailing_zeros w64 word (omega arith) small in
    record {
      small = t.0;
      lowest = record {
        small = omega (arith, t.0);
        member = ap (λ (b : ℕ). eqb b 1) t.1;
        first = λ n h. ap (λ (b : ℕ). eqb b 1) (t.2 n h);
      };
    }

-- ---- a link entered

-- a number came to the rows of those cells of a set that are not left, and none went
pub record EnteredBut (before after : List ℕ) (number first cells left : ℕ) : Type 0 where
  pub count : length after ≡ 128
  pub kept : (cell other : ℕ) → has (slice_index before cell) other ≡ true → has (slice_index after cell) other ≡ true
  pub entered : (n : ℕ) → has cells n ≡ true → (has left n ≡ true) ⊎ (has (slice_index after (first + n)) number ≡ true)

pub entered-none : (rows : List ℕ) (number first cells : ℕ) → length rows ≡ 128 → EnteredBut rows rows number first cells cells
entered-none rows number first cells count = record {
  count = count;
  kept = λ cell other h. h;
  entered = λ n h. inl h;
}

pub bit_or-insert : (row number : ℕ) → number < 64 → bit_or row (1 * 2 ^ number % 2 ^ 64) ≡ insert row number
unfolding insert
bit_or-insert row number small = ap (λ (x : ℕ). bit_or row x) (one_shl number 64 small)

pub bit_xor-remove : (row number : ℕ) → number < 64 → bit_xor row (bit_and row (1 * 2 ^ number % 2 ^ 64)) ≡ remove row number
unfolding remove
bit_xor-remove row number small = ap (λ (x : ℕ). bit_xor row (bit_and row x)) (one_shl number 64 small)

module _ (before after : List ℕ) (number first cells left cell : ℕ) (inside : first + cell < 128)
    (e : EnteredBut before after number first cells left) where
  abbrev place : ℕ
  place = first + cell

  abbrev more : List ℕ
  more = set after place (insert (slice_index after place) number)

  within : place < length after
  within = rw e.count inside

  here : slice_index more place ≡ insert (slice_index after place) number
  here = get_or-set_same after place (insert (slice_index after place) number) 0 within

  there : (other : ℕ) → (other ≡ place → ⊥) → slice_index more other ≡ slice_index after other
  there other ne = get_or-set_other after place other (insert (slice_index after place) number) 0 ne

  stays : (other n : ℕ) → has (slice_index after other) n ≡ true → has (slice_index more other) n ≡ true
  stays other n h = ⊎_elim
      (λ same. let P : ℕ → Type 0 = λ x. has (slice_index more x) n ≡ true in
      let Q : ℕ → Type 0 = λ x. has (slice_index after x) n ≡ true in
      subst P (sym same) (rw here (has-insert_other (slice_index after place) number n (subst Q same h))))
      (λ ne. rw (there other ne) h)
      (cases_eq other place)

  entered-more : EnteredBut before more number first cells (remove left cell)
  entered-more = record {
    count = length-set after place (insert (slice_index after place) number) ∙ e.count;
    kept = λ other n h. stays other n (e.kept other n h);
    entered = λ n h. ⊎_elim
        (λ same. let P : ℕ → Type 0 = λ x. has (slice_index more (first + x)) number ≡ true in
        inr (subst P (sym same) (rw here (has-insert_same (slice_index after place) number))))
        (λ ne. ⊎_elim (λ waits. inl (has-remove_other left cell n ne waits)) (λ is. inr (stays (first + n) number is)) (e.entered n h))
        (cases_eq n cell);
  }

-- as the code computes it
pub entered-next : (before after : List ℕ) (number first cells left : ℕ) → number < 64 → first + 64 ≤ 128 → left ≢ 0 → left < 2 ^ 64
    → EnteredBut before after number first cells left
    → EnteredBut before (set after (first + count_trailing_zeros 64 left)
    (bit_or (slice_index after (first + count_trailing_zeros 64 left)) (1 * 2 ^ number % 2 ^ 64))) number first cells
    (bit_and (left - 1) left)
entered-next before after number first cells left small inside some fits e =
    let low : IsLowestOf left (count_trailing_zeros 64 left) = lowest-of_word left some fits in
    rw (bit_or-insert (slice_index after (first + count_trailing_zeros 64 left)) number small, remove-lowest left _ low.lowest)
    (entered-more before after number first cells left (count_trailing_zeros 64 left) (omega (arith, low.small)) e)

pub entered-all : (before after : List ℕ) (number first cells left : ℕ) → left ≡ 0 → EnteredBut before after number first cells left
    → (n : ℕ) → has cells n ≡ true → has (slice_index after (first + n)) number ≡ true
entered-all before after number first cells left none e n h =
    ⊎_elim (λ waits. absurd (false≢true (sym (has-empty n) ∙ rw none at waits))) (λ is. is) (e.entered n h)

-- ---- links read

-- the links in the rows of those cells of a set that are not left
pub record ReadBut (rows : List ℕ) (first cells left links : ℕ) : Type 0 where
  pub read : (n number : ℕ) → has cells n ≡ true → has (slice_index rows (first + n)) number ≡ true
      → (has left n ≡ true) ⊎ (has links number ≡ true)

pub read-none : (rows : List ℕ) (first cells links : ℕ) → ReadBut rows first cells cells links
read-none rows first cells links = record { read = λ n number h k. inl h }

read-more : (rows : List ℕ) (first cells left links cell : ℕ) → ReadBut rows first cells left links
    → ReadBut rows first cells (remove left cell) (union links (slice_index rows (first + cell)))
read-more rows first cells left links cell r = record {
  read = λ n number h k. ⊎_elim
      (λ same. let P : ℕ → Type 0 = λ x. has (slice_index rows (first + x)) number ≡ true in
      inr (has-union_right links (slice_index rows (first + cell)) number (subst P same k)))
      (λ ne. ⊎_elim (λ waits. inl (has-remove_other left cell n ne waits))
      (λ is. inr (has-union_left links (slice_index rows (first + cell)) number is)) (r.read n number h k))
      (cases_eq n cell);
}

-- as the code computes it
pub read-next : (rows : List ℕ) (first cells left links : ℕ) → left ≢ 0 → left < 2 ^ 64 → ReadBut rows first cells left links
    → ReadBut rows first cells (bit_and (left - 1) left)
    (bit_or links (slice_index rows (first + count_trailing_zeros 64 left)))
unfolding union
read-next rows first cells left links some fits r =
    let low : IsLowestOf left (count_trailing_zeros 64 left) = lowest-of_word left some fits in
    rw (remove-lowest left _ low.lowest) (read-more rows first cells left links (count_trailing_zeros 64 left) r)

pub read-all : (rows : List ℕ) (first cells left links : ℕ) → left ≡ 0 → ReadBut rows first cells left links
    → (n number : ℕ) → has cells n ≡ true → has (slice_index rows (first + n)) number ≡ true → has links number ≡ true
read-all rows first cells left links none r n number h k =
    ⊎_elim (λ waits. absurd (false≢true (sym (has-empty n) ∙ rw none at waits))) (λ is. is) (r.read n number h k)

-- ---- links cut off

-- the numbers below one are in each row still
pub record KeptBelow (before after : List ℕ) (number : ℕ) : Type 0 where
  pub count : length after ≡ 128
  pub kept : (cell other : ℕ) → other < number → has (slice_index before cell) other ≡ true
      → has (slice_index after cell) other ≡ true

has-below : (number other : ℕ) → number < 64 → other < number → has (1 * 2 ^ number % 2 ^ 64 - 1) other ≡ true
unfolding has
has-below number other small less =
    rw (one_shl number 64 small) (ap (λ (b : ℕ). eqb b 1) (bit_at_mask_inside 0 number other (omega arith) less))

kept-more : (before after : List ℕ) (number place kept : ℕ) → place < 128 → ((other : ℕ) → other < number → has kept other ≡ true)
    → KeptBelow before after number → KeptBelow before (set after place (intersection (slice_index after place) kept)) number
kept-more before after number place kept inside below k = record {
  count = length-set after place (intersection (slice_index after place) kept) ∙ k.count;
  kept = λ cell other less h. ⊎_elim
      (λ same. let P : ℕ → Type 0 = λ x. has (slice_index (set after place (intersection (slice_index after place) kept)) x) other ≡ true in
      let Q : ℕ → Type 0 = λ x. has (slice_index after x) other ≡ true in
      subst P (sym same)
      (rw (get_or-set_same after place (intersection (slice_index after place) kept) 0 (rw k.count inside))
      (has-intersection_both (slice_index after place) kept other (subst Q same (k.kept cell other less h)) (below other less))))
      (λ ne. rw (get_or-set_other after place cell (intersection (slice_index after place) kept) 0 ne) (k.kept cell other less h))
      (cases_eq cell place);
}

-- as the code computes it
pub kept-next : (before after : List ℕ) (number place : ℕ) → number < 64 → place < 128 → KeptBelow before after number
    → KeptBelow before (set after place (bit_and (slice_index after place) (1 * 2 ^ number % 2 ^ 64 - 1))) number
unfolding intersection
kept-next before after number place small inside k =
    kept-more before after number place (1 * 2 ^ number % 2 ^ 64 - 1) inside (λ other less. has-below number other small less) k
