-- Masks in 32 digits: different sets have different words. A loop over half the digits reads that half of a set, or
-- finds that some byte is no digit; the two halves are those of one set.
use Rattle.std.proofs.Common.{◌≡◌, ℕ, zero, suc, ◌+◌, ◌*◌, ◌/◌, ◌%◌, ◌<◌, ◌≤◌, ◌^◌, List, [], ◌∷◌, ◌++◌, length, get_or, take, drop, refl}
use Rattle.std.proofs.Common.{sym, ap, ◌∙◌, arith, add-one, add-zero, add-suc, append_assoc, length-append, Bool, true, false, ltb, ◌&&◌}
use Rattle.std.proofs.lemmas.List.{take_more, append-nil, take-append-drop}
use Rattle.std.proofs.lemmas.Bool.Decides.{nat_tests}
use Rattle.std.proofs.Math.Seq.{take-append_seam, drop-append_seam}
use Rattle.std.proofs.lemmas.Bool.{false≢true, ltb-true, lt-ltb}
use Rattle.std.proofs.Math.Nat.{pow-le-pow_right}
use Rattle.hx_board.proofs.SetLaws.{first_of_both, second_of_both}
use Rattle.hx_lex.specs.Words.{hex, hex_digit}
use Rattle.hx_lex.proofs.Ends.{push_injective}

pub length-hex : (k n : ℕ) → length (hex k n) ≡ k
unfolding hex
length-hex zero n = refl
length-hex (suc k) n = length-append (hex k (n / 16)) (hex_digit (n % 16) ∷ []) ∙ omega (arith, length-hex k (n / 16))

-- A loop over the digits has come so far. Where each byte was a digit the digits are those of a number, else they are
-- those of none.
pub record ReadHex (word : List ℕ) (i bits : ℕ) (known : Bool) : Type 0 where
  pub small : bits < 16 ^ i
  pub right : known ≡ true → take i word ≡ hex i bits
  pub wrong : known ≡ false → (n : ℕ) → take i word ≡ hex i n → ⊥

pub read_no_hex : (word : List ℕ) → ReadHex word 0 0 true
unfolding hex
read_no_hex word = record { small = omega arith; right = λ _. refl; wrong = λ no. absurd (false≢true (sym no)) }

hex_more : (i bits digit : ℕ) → digit < 16 → hex (i + 1) (16 * bits + digit) ≡ hex i bits ++ hex_digit digit ∷ []
unfolding hex
hex_more i bits digit small =
    let high : (16 * bits + digit) / 16 ≡ bits = omega arith in
    let low : (16 * bits + digit) % 16 ≡ digit = omega arith in
    rw add-one (rw (high, low) refl)

hex_parts : (i n : ℕ) → hex (i + 1) n ≡ hex i (n / 16) ++ hex_digit (n % 16) ∷ []
unfolding hex
hex_parts i n = rw add-one refl

right_more : (word : List ℕ) (i bits digit : ℕ) (known : Bool) → i < length word
    → (digit < 16 → get_or word i 0 ≡ hex_digit digit)
    → (known ≡ true → take i word ≡ hex i bits) → (known && ltb digit 16) ≡ true
    → take (i + 1) word ≡ hex (i + 1) (16 * bits + digit % 16)
right_more word i bits digit known within is before holds =
    let small : digit < 16 = ltb-true digit 16 (second_of_both known (ltb digit 16) holds) in
    let same : digit % 16 ≡ digit = omega arith in
    take_more word i 0 within
    ∙ ap (λ (t : List ℕ). t ++ get_or word i 0 ∷ []) (before (first_of_both known (ltb digit 16) holds))
    ∙ ap (λ (byte : ℕ). hex i bits ++ byte ∷ []) (is small)
    ∙ sym (hex_more i bits digit small) ∙ ap (λ (d : ℕ). hex (i + 1) (16 * bits + d)) (sym same)

last_digit : (word : List ℕ) (i n : ℕ) → i < length word → take (i + 1) word ≡ hex (i + 1) n
    → (take i word ≡ hex i (n / 16)) × (get_or word i 0 ≡ hex_digit (n % 16))
last_digit word i n within e =
    push_injective (take i word) (hex i (n / 16)) (get_or word i 0) (hex_digit (n % 16))
    (sym (take_more word i 0 within) ∙ e ∙ hex_parts i n)

wrong_more : (word : List ℕ) (i digit : ℕ) (known : Bool) → i < length word
    → ((d : ℕ) → d < 16 → get_or word i 0 ≡ hex_digit d → digit ≡ d)
    → (known ≡ false → (n : ℕ) → take i word ≡ hex i n → ⊥) → (known && ltb digit 16) ≡ false
    → (n : ℕ) → take (i + 1) word ≡ hex (i + 1) n → ⊥
wrong_more word i digit true within each before fails n e =
    let same : digit ≡ n % 16 = each (n % 16) (omega arith) (last_digit word i n within e).1 in
    false≢true (sym fails ∙ lt-ltb digit 16 (omega arith))
wrong_more word i digit false within each before fails n e = before refl (n / 16) (last_digit word i n within e).0

-- the loop reads one more byte
pub read_hex : (word : List ℕ) (i bits digit : ℕ) (known : Bool) → i < length word
    → (digit < 16 → get_or word i 0 ≡ hex_digit digit)
    → ((d : ℕ) → d < 16 → get_or word i 0 ≡ hex_digit d → digit ≡ d)
    → ReadHex word i bits known → ReadHex word (i + 1) (16 * bits + digit % 16) (known && ltb digit 16)
read_hex word i bits digit known within is each before = record {
  small = rw add-one (omega (arith, before.small));
  right = right_more word i bits digit known within is before.right;
  wrong = wrong_more word i digit known within each before.wrong;
}

pub hex_bound : (word : List ℕ) (i bits digit : ℕ) (known : Bool) → i < 16 → digit < 16 → ReadHex word i bits known
    → 16 * bits + digit < 2 ^ 64
hex_bound word i bits digit known short small before =
    let next : i + 1 ≤ 16 = omega arith in
    let most : 16 ^ (i + 1) ≤ 16 ^ 16 = pow-le-pow_right (omega arith) next in
    let step : 16 ^ (i + 1) ≡ 16 * 16 ^ i = rw add-one (omega arith) in
    omega (arith, before.small, most, step)

-- a number in two parts
hex_joined : (m k a b : ℕ) → b < 16 ^ k → hex (m + k) (a * 16 ^ k + b) ≡ hex m a ++ hex k b
unfolding hex
hex_joined m zero a b small =
    let none : a * 16 ^ 0 + b ≡ a = omega arith in
    ap (λ (k : ℕ). hex k (a * 16 ^ 0 + b)) (add-zero m) ∙ ap (hex m) none ∙ sym (append-nil (hex m a))
hex_joined m (suc k) a b small =
    let step : 16 ^ suc k ≡ 16 * 16 ^ k = omega arith in
    let scaled : a * 16 ^ suc k ≡ 16 * (a * 16 ^ k) = ap (λ (n : ℕ). a * n) step ∙ omega arith in
    let high : (a * 16 ^ suc k + b) / 16 ≡ a * 16 ^ k + b / 16 = omega (arith, scaled) in
    let low : (a * 16 ^ suc k + b) % 16 ≡ b % 16 = omega (arith, scaled) in
    ap (λ (j : ℕ). hex j (a * 16 ^ suc k + b)) (add-suc m k)
    ∙ ap (λ (n : ℕ). hex (m + k) n ++ hex_digit ((a * 16 ^ suc k + b) % 16) ∷ []) high
    ∙ ap (λ (d : ℕ). hex (m + k) (a * 16 ^ k + b / 16) ++ hex_digit d ∷ []) low
    ∙ ap (λ (t : List ℕ). t ++ hex_digit (b % 16) ∷ []) (hex_joined m k a (b / 16) (omega arith))
    ∙ append_assoc (hex m a) (hex k (b / 16)) (hex_digit (b % 16) ∷ [])

-- a mask in two halves
mask_joined : (high low : ℕ) → low < 2 ^ 64 → hex 32 (high * 2 ^ 64 + low) ≡ hex 16 high ++ hex 16 low
mask_joined high low small = hex_joined 16 16 high low small

mask_halves : (n : ℕ) → hex 32 n ≡ hex 16 (n / 2 ^ 64) ++ hex 16 (n % 2 ^ 64)
mask_halves n =
    let whole : n ≡ n / 2 ^ 64 * 2 ^ 64 + n % 2 ^ 64 = omega arith in
    ap (hex 32) whole ∙ mask_joined (n / 2 ^ 64) (n % 2 ^ 64) (omega arith)

pub high_half : (word : List ℕ) (n : ℕ) → word ≡ hex 32 n → take 16 word ≡ hex 16 (n / 2 ^ 64)
high_half word n e =
    ap (take 16) (e ∙ mask_halves n)
    ∙ ap (λ (k : ℕ). take k (hex 16 (n / 2 ^ 64) ++ hex 16 (n % 2 ^ 64))) (sym (length-hex 16 (n / 2 ^ 64)))
    ∙ take-append_seam (hex 16 (n / 2 ^ 64)) (hex 16 (n % 2 ^ 64))

pub low_half : (word : List ℕ) (n : ℕ) → word ≡ hex 32 n → drop 16 word ≡ hex 16 (n % 2 ^ 64)
low_half word n e =
    ap (drop 16) (e ∙ mask_halves n)
    ∙ ap (λ (k : ℕ). drop k (hex 16 (n / 2 ^ 64) ++ hex 16 (n % 2 ^ 64))) (sym (length-hex 16 (n / 2 ^ 64)))
    ∙ drop-append_seam (hex 16 (n / 2 ^ 64)) (hex 16 (n % 2 ^ 64))

pub whole_mask : (word : List ℕ) (high low : ℕ) → low < 2 ^ 64 → take 16 word ≡ hex 16 high → drop 16 word ≡ hex 16 low
    → word ≡ hex 32 (high * 2 ^ 64 + low)
whole_mask word high low small front back =
    sym (take-append-drop 16 word) ∙ ap (λ (t : List ℕ). t ++ drop 16 word) front ∙ ap (λ (t : List ℕ). hex 16 high ++ t) back
    ∙ sym (mask_joined high low small)

hex_digit_injective : (a b : ℕ) → a < 16 → b < 16 → hex_digit a ≡ hex_digit b → a ≡ b
hex_digit_injective a b small few e = grind (arith, nat_tests)

pub hex_injective : (k m n : ℕ) → m < 16 ^ k → n < 16 ^ k → hex k m ≡ hex k n → m ≡ n
unfolding hex
hex_injective zero m n small few e = omega arith
hex_injective (suc k) m n small few e =
    let parts = push_injective (hex k (m / 16)) (hex k (n / 16)) (hex_digit (m % 16)) (hex_digit (n % 16)) e in
    let step : 16 ^ suc k ≡ 16 * 16 ^ k = omega arith in
    let high : m / 16 ≡ n / 16 = hex_injective k (m / 16) (n / 16) (omega arith) (omega arith) parts.0 in
    let low : m % 16 ≡ n % 16 = hex_digit_injective (m % 16) (n % 16) (omega arith) (omega arith) parts.1 in
    omega (arith, high, low)

pub mask_injective : (m n : ℕ) → m < 2 ^ 128 → n < 2 ^ 128 → hex 32 m ≡ hex 32 n → m ≡ n
mask_injective m n small few e = hex_injective 32 m n (omega arith) (omega arith) e
