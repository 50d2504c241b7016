-- The words of bytes, taken from the front. The parts between spaces are the bytes up to the first space, and then the
-- parts of what is behind it.
use Rattle.std.proofs.Common.{◌≡◌, ℕ, zero, suc, ◌+◌, Bool, true, false, cond, not, List, [], ◌∷◌, ◌++◌, take, drop, length, refl, sym, ap}
use Rattle.std.proofs.Common.{◌∙◌, arith, subst, ◌≤◌, ◌<◌, get_or, drop-cons, add-one, append_assoc, append-nil, length-append, ◌-◌}
use Rattle.std.proofs.Common.{length-drop, eqb}
use Rattle.std.proofs.lemmas.List.Sums.{position_or_len_is}
use Rattle.std.proofs.lemmas.List.{take_all}
use Rattle.std.proofs.lemmas.Bool.{eq-eqb, eqb-true, false_from_ne_true}
use Rattle.arrayvec.specs.ArrayVec.{ArrayVec}
use Rattle.std.specs.List.{position_or_len, filter}
use Rattle.hx_lex.specs.Words.{in_first}
use Rattle.hx_htp.specs.Words.{is_kept, is_hash, is_space, shown, parts_between, has_bytes, words_in}
use Rattle.hx_htp.specs.Parts.{BeginsWord}

one-add : (n : ℕ) → 1 + n ≡ suc n
one-add n = omega arith

-- the parts behind the space that stands first
after_space : List ℕ → List (List ℕ)
after_space [] = []
after_space (byte ∷ bytes) = parts_between bytes

by_first : (space : Bool) (byte : ℕ) (bytes : List ℕ) (n : ℕ) → parts_between bytes ≡ take n bytes ∷ after_space (drop n bytes)
    → cond space ([] ∷ parts_between bytes) (in_first byte (parts_between bytes))
    ≡ take (cond (not space) (1 + n) 0) (byte ∷ bytes) ∷ after_space (drop (cond (not space) (1 + n) 0) (byte ∷ bytes))
unfolding after_space
by_first true byte bytes n h = refl
by_first false byte bytes n h =
    ap (in_first byte) h ∙ sym (ap (λ k. take k (byte ∷ bytes) ∷ after_space (drop k (byte ∷ bytes))) (one-add n))

parts_at_space : (bytes : List ℕ)
    → parts_between bytes ≡ take (position_or_len is_space bytes) bytes ∷ after_space (drop (position_or_len is_space bytes) bytes)
unfolding parts_between after_space
parts_at_space [] = refl
parts_at_space (byte ∷ bytes) = by_first (is_space byte) byte bytes (position_or_len is_space bytes) (parts_at_space bytes)

-- nothing, or a space first
IsBehind : List ℕ → Type 0
IsBehind [] = Unit {0}
IsBehind (byte ∷ bytes) = is_space byte ≡ true

behind_first : (space : Bool) (byte : ℕ) (bytes : List ℕ) (n : ℕ) → is_space byte ≡ space → IsBehind (drop n bytes)
    → IsBehind (drop (cond (not space) (1 + n) 0) (byte ∷ bytes))
unfolding IsBehind
behind_first true byte bytes n is h = is
behind_first false byte bytes n is h = (let P : ℕ → Type 0 = λ k. IsBehind (drop k (byte ∷ bytes)) in subst P (sym (one-add n)) h)

behind : (bytes : List ℕ) → IsBehind (drop (position_or_len is_space bytes) bytes)
unfolding IsBehind
behind [] = tt
behind (byte ∷ bytes) = behind_first (is_space byte) byte bytes (position_or_len is_space bytes) refl (behind bytes)

words_behind : (bytes : List ℕ) → IsBehind bytes → filter has_bytes (after_space bytes) ≡ words_in bytes
unfolding parts_between after_space IsBehind
words_behind [] h = refl
words_behind (byte ∷ bytes) h =
    sym (ap (λ space. filter has_bytes (cond space ([] ∷ parts_between bytes) (in_first byte (parts_between bytes)))) h)

some_first : (bytes : List ℕ) (n : ℕ) → 1 ≤ length bytes → 1 ≤ n → has_bytes (take n bytes) ≡ true
some_first [] n some one = absurd (omega (arith, some))
some_first (byte ∷ bytes) (suc n) some one = refl
some_first (byte ∷ bytes) zero some one = absurd (omega (arith, one))

no_space_first : (bytes : List ℕ) → 1 ≤ length bytes → BeginsWord bytes → 1 ≤ position_or_len is_space bytes
no_space_first [] some begun = absurd (omega (arith, some))
no_space_first (byte ∷ bytes) some begun =
    let is : position_or_len is_space (byte ∷ bytes) ≡ 1 + position_or_len is_space bytes
    = ap (λ space. cond (not space) (1 + position_or_len is_space bytes) 0) begun in
    omega (arith, is)

-- the word up to the first space, and the words behind it
pub words_cut : (bytes : List ℕ) (n : ℕ) → n ≡ position_or_len is_space bytes → 1 ≤ length bytes → BeginsWord bytes
    → words_in bytes ≡ take n bytes ∷ words_in (drop n bytes)
words_cut bytes n is some begun =
    let m : ℕ = position_or_len is_space bytes in
    let all : words_in bytes ≡ filter has_bytes (take m bytes ∷ after_space (drop m bytes)) =
    ap (filter has_bytes) (parts_at_space bytes) in
    let first : has_bytes (take m bytes) ≡ true = some_first bytes m some (no_space_first bytes some begun) in
    let kept : filter has_bytes (take m bytes ∷ after_space (drop m bytes)) ≡ take m bytes ∷ filter has_bytes (after_space (drop m bytes))
    = ap (λ b. cond b (take m bytes ∷ filter has_bytes (after_space (drop m bytes)))
    (filter has_bytes (after_space (drop m bytes)))) first in
    all ∙ kept ∙ ap (λ (words : List (List ℕ)). take m bytes ∷ words) (words_behind (drop m bytes) (behind bytes))
    ∙ ap (λ k. take k bytes ∷ words_in (drop k bytes)) (sym is)

-- a space in front makes no difference
pub words_in-space : (byte : ℕ) (bytes : List ℕ) → is_space byte ≡ true → words_in (byte ∷ bytes) ≡ words_in bytes
unfolding parts_between
words_in-space byte bytes h = ap (λ space. filter has_bytes (cond space ([] ∷ parts_between bytes) (in_first byte (parts_between bytes)))) h

pub words_in-none : words_in [] ≡ []
unfolding parts_between
words_in-none = refl

-- what of a line counts, from its first byte on
pub shown-dropped : (byte : ℕ) (bytes : List ℕ) → is_kept byte ≡ false → shown (byte ∷ bytes) ≡ shown bytes
shown-dropped byte bytes h =
    ap (λ b. take (position_or_len is_hash (cond b (byte ∷ filter is_kept bytes) (filter is_kept bytes)))
    (cond b (byte ∷ filter is_kept bytes) (filter is_kept bytes))) h

kept_first : (byte : ℕ) (rest : List ℕ) (hash : Bool) → is_hash byte ≡ hash
    → take (position_or_len is_hash (byte ∷ rest)) (byte ∷ rest) ≡ cond hash [] (byte ∷ take (position_or_len is_hash rest) rest)
kept_first byte rest true h = ap (λ b. take (cond (not b) (1 + position_or_len is_hash rest) 0) (byte ∷ rest)) h
kept_first byte rest false h =
    ap (λ b. take (cond (not b) (1 + position_or_len is_hash rest) 0) (byte ∷ rest)) h
    ∙ ap (λ k. take k (byte ∷ rest)) (one-add (position_or_len is_hash rest))

pub shown-kept : (byte : ℕ) (bytes : List ℕ) (hash : Bool) → is_kept byte ≡ true → is_hash byte ≡ hash
    → shown (byte ∷ bytes) ≡ cond hash [] (byte ∷ shown bytes)
shown-kept byte bytes hash h is =
    ap (λ b. take (position_or_len is_hash (cond b (byte ∷ filter is_kept bytes) (filter is_kept bytes)))
    (cond b (byte ∷ filter is_kept bytes) (filter is_kept bytes))) h
    ∙ kept_first byte (filter is_kept bytes) hash is

-- one more byte of a line is passed: it is kept, or it is dropped
pub kept_on : (line kept new whole : List ℕ) (i : ℕ) → i < length line → kept ++ shown (drop i line) ≡ whole → length kept ≤ i
    → is_kept (get_or line i 0) ≡ true → is_hash (get_or line i 0) ≡ false → new ≡ kept ++ get_or line i 0 ∷ []
    → (new ++ shown (drop (i + 1) line) ≡ whole) × (length new ≤ i + 1)
kept_on line kept new whole i within so_far short is no_hash added =
    let b : ℕ = get_or line i 0 in
    let next : drop i line ≡ b ∷ drop (i + 1) line = drop-cons line i 0 within ∙ ap (λ k. b ∷ drop k line) (sym (add-one i)) in
    let here : shown (drop i line) ≡ b ∷ shown (drop (i + 1) line) = ap shown next ∙ shown-kept b (drop (i + 1) line) false is no_hash in (
      ap (λ xs. xs ++ shown (drop (i + 1) line)) added ∙ append_assoc kept (b ∷ []) (shown (drop (i + 1) line))
          ∙ ap (λ xs. kept ++ xs) (sym here) ∙ so_far,
      omega (arith, ap length added, length-append kept (b ∷ []), short),
    )

pub dropped_on : (line kept new whole : List ℕ) (i : ℕ) → i < length line → kept ++ shown (drop i line) ≡ whole → length kept ≤ i
    → is_kept (get_or line i 0) ≡ false → new ≡ kept → (new ++ shown (drop (i + 1) line) ≡ whole) × (length new ≤ i + 1)
dropped_on line kept new whole i within so_far short is same =
    let b : ℕ = get_or line i 0 in
    let next : drop i line ≡ b ∷ drop (i + 1) line = drop-cons line i 0 within ∙ ap (λ k. b ∷ drop k line) (sym (add-one i)) in
    let here : shown (drop i line) ≡ shown (drop (i + 1) line) = ap shown next ∙ shown-dropped b (drop (i + 1) line) is in (
      ap (λ xs. xs ++ shown (drop (i + 1) line)) same ∙ ap (λ xs. kept ++ xs) (sym here) ∙ so_far,
      omega (arith, short, ap length same),
    )

-- equal vectors have the same items
pub same_items : {a b : ArrayVec ℕ} → a ≡ b → a.items ≡ b.items
same_items e = ap (λ v. v.items) e

-- the rest of a line behind a `#` does not count
pub ended_by_hash : (line kept whole : List ℕ) (i : ℕ) → i < length line → kept ++ shown (drop i line) ≡ whole
    → is_kept (get_or line i 0) ≡ true → is_hash (get_or line i 0) ≡ true → kept ≡ whole
ended_by_hash line kept whole i within so_far is hash =
    let b : ℕ = get_or line i 0 in
    let next : drop i line ≡ b ∷ drop (i + 1) line = drop-cons line i 0 within ∙ ap (λ k. b ∷ drop k line) (sym (add-one i)) in
    let here : shown (drop i line) ≡ [] = ap shown next ∙ shown-kept b (drop (i + 1) line) true is hash in
    sym (append-nil kept) ∙ ap (λ xs. kept ++ xs) (sym here) ∙ so_far

-- the place of the first space
pub first_space : (bytes : List ℕ) (i : ℕ) → i ≤ length bytes → ((k : ℕ) → k < i → is_space (get_or bytes k 0) ≡ false)
    → (i < length bytes → is_space (get_or bytes i 0) ≡ true) → i ≡ position_or_len is_space bytes
first_space bytes i within none here = sym (position_or_len_is is_space bytes i 0 within none here)

pub not_hash : (byte : ℕ) → (byte ≡ 35 → ⊥) → is_hash byte ≡ false
not_hash byte h = false_from_ne_true (is_hash byte) (λ e. h (eqb-true byte 35 e))

pub is_hash_byte : (byte : ℕ) → byte ≡ 35 → is_hash byte ≡ true
is_hash_byte byte e = eq-eqb byte 35 e

-- a loop that passes spaces
pub space_passed : (bytes : List ℕ) → 1 ≤ length bytes → is_space (get_or bytes 0 0) ≡ true
    → words_in (take (length bytes - 1) (drop 1 bytes)) ≡ words_in bytes
space_passed bytes some space =
    let all : take (length bytes - 1) (drop 1 bytes) ≡ drop 1 bytes =
    take_all (length bytes - 1) (drop 1 bytes) (omega (arith, length-drop 1 bytes)) in
    let parts : bytes ≡ get_or bytes 0 0 ∷ drop 1 bytes = drop-cons bytes 0 0 (omega arith) in
    ap words_in all ∙ sym (ap words_in parts ∙ words_in-space (get_or bytes 0 0) (drop 1 bytes) space)

pub no_words : (bytes rest : List ℕ) → rest ≡ [] → words_in rest ≡ words_in bytes → words_in bytes ≡ []
no_words bytes rest none same = sym same ∙ ap words_in none ∙ words_in-none

pub begins_word : (bytes : List ℕ) → is_space (get_or bytes 0 0) ≡ false → BeginsWord bytes
begins_word [] h = tt
begins_word (byte ∷ bytes) h = h

pub no_bytes : (bytes : List ℕ) → eqb (length bytes) 0 ≡ true → bytes ≡ []
no_bytes [] h = refl
no_bytes (byte ∷ bytes) h = absurd (let e : length (byte ∷ bytes) ≡ 0 = eqb-true (length (byte ∷ bytes)) 0 h in omega (arith, e))
