-- How long the words of a player and of a small number are. The digits of a mask are put from the most significant
-- down, each the remainder of what is above its place.
use Rattle.std.proofs.Common.{◌≡◌, ℕ, suc, ◌+◌, ◌*◌, ◌-◌, ◌/◌, ◌%◌, ◌<◌, ◌≤◌, ◌^◌, List, [], ◌∷◌, ◌++◌, length, refl, sym, ap, ◌∙◌, arith}
use Rattle.std.proofs.Common.{append_assoc, length-append}
use Rattle.std.specs.Fmt.{decimal}
use Rattle.std.proofs.lemmas.Fmt.{length-decimal-le}
use Rattle.std.proofs.lemmas.List.{append-nil}
use Rattle.std.proofs.lemmas.Nat.{pow-add}
use Rattle.std.proofs.Math.Nat.{div-div-eq-div-mul}
use Rattle.hx_board.specs.declared.colours.Colour.{Colour}
use Rattle.hx_board.specs.declared.colours.Colour.TheVariants.{Black, White}
use Rattle.hx_lex.specs.Words.{hex, hex_digit, colour_word}
use Rattle.hx_lex.proofs.Masks.{length-hex}

pub length-colour_word : (colour : Colour) → length (colour_word colour) ≡ 5
length-colour_word Black = refl
length-colour_word White = refl

pub length-small : (n : ℕ) → n < 100 → length (decimal n) ≤ 2
length-small n small = length-decimal-le 2 n (omega arith) (omega arith) (omega arith)

-- the digits of a mask down to a place
pub hex_none : (old : List ℕ) (bits : ℕ) → old ≡ old ++ hex 0 bits
unfolding hex
hex_none old bits = sym (append-nil old)

pub hex_next : (old now : List ℕ) (bits place digit : ℕ) → 0 < place → place ≤ 32
    → now ≡ (old ++ hex (32 - place) (bits / 2 ^ (4 * place))) ++ digit ∷ []
    → digit ≡ hex_digit (bits / 2 ^ (4 * (place - 1)) % 16)
    → now ≡ old ++ hex (32 - (place - 1)) (bits / 2 ^ (4 * (place - 1)))
unfolding hex
hex_next old now bits place digit some few is same =
    let count : 32 - (place - 1) ≡ suc (32 - place) = omega arith in
    let shift : 4 * place ≡ 4 * (place - 1) + 4 = omega arith in
    let high : bits / 2 ^ (4 * (place - 1)) / 16 ≡ bits / 2 ^ (4 * place) = div-div-eq-div-mul bits (2 ^ (4 * (place - 1))) 16
    ∙ ap (λ (n : ℕ). bits / n) (sym (ap (λ (n : ℕ). 2 ^ n) shift ∙ pow-add 2 (4 * (place - 1)) 4)) in
    is ∙ append_assoc old (hex (32 - place) (bits / 2 ^ (4 * place))) (digit ∷ [])
    ∙ ap (λ (xs : List ℕ). old ++ xs)
    (ap (λ (n : ℕ). hex (32 - place) n ++ digit ∷ []) (sym high) ∙ ap
    (λ (d : ℕ). hex (32 - place) (bits / 2 ^ (4 * (place - 1)) / 16) ++ d ∷ []) same ∙ ap
    (λ (k : ℕ). hex k (bits / 2 ^ (4 * (place - 1)))) (sym count))

pub length-digits : (old now : List ℕ) (bits place : ℕ) → now ≡ old ++ hex (32 - place) bits
    → length now ≡ length old + (32 - place)
length-digits old now bits place is = ap length is ∙ length-append old (hex (32 - place) bits)
    ∙ ap (λ (n : ℕ). length old + n) (length-hex (32 - place) bits)
