-- Each byte of a word is 48 or more: those of numbers, masks, colours and cells, and of the words that name lines and
-- rules. So a word has neither a space nor an LF in it, and a line of words has no LF.
use Rattle.std.proofs.Common.{◌≡◌, ℕ, zero, suc, ◌+◌, ◌/◌, ◌%◌, ◌<◌, ◌≤◌, List, [], ◌∷◌, ◌++◌, refl, arith, Bool, true, false, leb, ◌&&◌}
use Rattle.std.proofs.lemmas.Bool.{false≢true}
use Rattle.std.proofs.lemmas.Bool.Decides.{nat_tests}
use Rattle.std.specs.Prelude.{codes}
use Rattle.std.specs.Fmt.{decimal}
use Rattle.std.specs.Str.Parse.{AllDigits}
use Rattle.std.proofs.lemmas.Str.Parse.{digit_from_value}
use Rattle.hx_board.specs.declared.colours.Colour.{Colour}
use Rattle.hx_board.specs.declared.colours.Colour.TheVariants.{Black, White}
use Rattle.hx_board.specs.Cells.{row_of}
use Rattle.hx_lex.specs.Words.{hex, hex_digit, colour_word, cell_word, spaced, IsNumber}
use Rattle.hx_lex.specs.Marks.{Lacks}
use Rattle.hx_lex.proofs.Numbers.{decimal_digits}
use Rattle.hx_lex.proofs.Spacing.{AreWords, IsLine}

abbrev pub IsHigh : List ℕ → Type 0
IsHigh [] = Unit {0}
IsHigh (byte ∷ bytes) = (48 ≤ byte) × IsHigh bytes

IsHigh-push : (bytes : List ℕ) (byte : ℕ) → IsHigh bytes → 48 ≤ byte → IsHigh (bytes ++ byte ∷ [])
IsHigh-push [] byte high last = (last, tt)
IsHigh-push (first ∷ bytes) byte high last = (high.0, IsHigh-push bytes byte high.1 last)

IsHigh-digits : (digits : List ℕ) → AllDigits 10 digits → IsHigh digits
IsHigh-digits [] all = tt
IsHigh-digits (digit ∷ digits) all = ((digit_from_value digit all.0).0, IsHigh-digits digits all.1)

pub IsHigh-decimal : (n : ℕ) → IsNumber n → IsHigh (decimal n)
IsHigh-decimal n small = IsHigh-digits (decimal n) (decimal_digits n small).0

hex_digit-high : (n : ℕ) → n < 16 → 48 ≤ hex_digit n
hex_digit-high n small = grind (arith, nat_tests)

pub IsHigh-hex : (digits n : ℕ) → IsHigh (hex digits n)
unfolding hex
IsHigh-hex zero n = tt
IsHigh-hex (suc digits) n =
    IsHigh-push (hex digits (n / 16)) (hex_digit (n % 16)) (IsHigh-hex digits (n / 16)) (hex_digit-high (n % 16) (omega arith))

-- a test, which computes at a text that is written out
unfoldable pub is_high : List ℕ → Bool
is_high [] = true
is_high (byte ∷ bytes) = leb 48 byte && is_high bytes

both_high : (byte : ℕ) (bytes : List ℕ) (test : Bool) → leb 48 byte ≡ test → (test && is_high bytes) ≡ true
    → (is_high bytes ≡ true → IsHigh bytes) → (48 ≤ byte) × IsHigh bytes
both_high byte bytes true is both later = (grind (arith, nat_tests), later both)
both_high byte bytes false is both later = absurd (false≢true both)

pub IsHigh-test : (bytes : List ℕ) → is_high bytes ≡ true → IsHigh bytes
unfolding is_high
IsHigh-test [] test = tt
IsHigh-test (byte ∷ bytes) test = both_high byte bytes (leb 48 byte) refl test (λ later. IsHigh-test bytes later)

pub IsHigh-colour_word : (colour : Colour) → IsHigh (colour_word colour)
unfolding is_high
IsHigh-colour_word Black = IsHigh-test (codes "black") refl
IsHigh-colour_word White = IsHigh-test (codes "white") refl

pub IsHigh-cell_word : (cell : ℕ) → IsNumber (row_of cell + 1) → IsHigh (cell_word cell)
IsHigh-cell_word cell small = (omega arith, IsHigh-decimal (row_of cell + 1) small)

-- ---- words of high bytes

abbrev pub AllHigh : List (List ℕ) → Type 0
AllHigh [] = Unit {0}
AllHigh (word ∷ words) = IsHigh word × AllHigh words

pub Lacks-high : (mark : ℕ) (bytes : List ℕ) → mark < 48 → IsHigh bytes → Lacks mark bytes
Lacks-high mark [] low high = tt
Lacks-high mark (byte ∷ bytes) low high = (λ e. absurd (omega arith), Lacks-high mark bytes low high.1)

AreWords-high : (words : List (List ℕ)) → AllHigh words → AreWords words
AreWords-high [] high = tt
AreWords-high (word ∷ words) high = (Lacks-high 32 word (omega arith) high.0, AreWords-high words high.1)

pub IsLine-high : (word : List ℕ) (words : List (List ℕ)) → AllHigh (word ∷ words) → IsLine (word ∷ words)
IsLine-high word words high = (Lacks-high 32 word (omega arith) high.0, AreWords-high words high.1)

Lacks-append : (a b : List ℕ) → Lacks 10 a → Lacks 10 b → Lacks 10 (a ++ b)
Lacks-append [] b lacks_a lacks_b = lacks_b
Lacks-append (byte ∷ a) b lacks_a lacks_b = (lacks_a.0, Lacks-append a b lacks_a.1 lacks_b)

pub Lacks-spaced : (words : List (List ℕ)) → AllHigh words → Lacks 10 (spaced words)
unfolding spaced
Lacks-spaced [] high = tt
Lacks-spaced (word ∷ []) high = Lacks-high 10 word (omega arith) high.0
Lacks-spaced (word ∷ next ∷ words) high =
    Lacks-append word (32 ∷ spaced (next ∷ words)) (Lacks-high 10 word (omega arith) high.0)
    (λ e. absurd (omega arith), Lacks-spaced (next ∷ words) high.1)
