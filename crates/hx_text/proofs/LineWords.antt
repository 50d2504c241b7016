-- The words of the lines of a tree's text outside of its nodes. All are of high bytes, so each line gives back the
-- words that it was spelled from.
use Rattle.std.proofs.Common.{◌≡◌, ℕ, List, [], ◌∷◌, refl, ap, ◌∙◌, arith}
use Rattle.std.specs.Prelude.{codes}
use Rattle.std.specs.Fmt.{decimal}
use Rattle.hx_board.specs.declared.colours.Colour.{Colour}
use Rattle.hx_board.specs.Cells.{Extent, IsExtent}
use Rattle.hx_lex.specs.Words.{colour_word, words_in, IsNumber}
use Rattle.hx_text.specs.PositionTexts.{size_line}
use Rattle.hx_text.specs.declared.versions.Version.{Version}
use Rattle.hx_text.specs.declared.versions.Version.TheVariants.{One, Two}
use Rattle.hx_text.specs.Versions.{version_word}
use Rattle.hx_text.specs.TreeTexts.{title_line, end_line}
use Rattle.hx_lex.proofs.Spacing.{IsLine, words_in-spaced, spaced_injective}
use Rattle.hx_lex.proofs.KeyedLines.{second_word_same}
use Rattle.hx_lex.proofs.HighBytes.{AllHigh, is_high, IsHigh-test, IsHigh-decimal, IsHigh-colour_word, IsLine-high}

abbrev first_byte : List ℕ → ℕ
first_byte [] = 0
first_byte (byte ∷ bytes) = byte

abbrev pub title_words : Version → List (List ℕ)
title_words version = codes "hextree" ∷ version_word version ∷ []

pub AllHigh-title_words : (version : Version) → AllHigh (title_words version)
unfolding is_high
AllHigh-title_words One = (IsHigh-test (codes "hextree") refl, (IsHigh-test (codes "1") refl, tt))
AllHigh-title_words Two = (IsHigh-test (codes "hextree") refl, (IsHigh-test (codes "2") refl, tt))

-- a title tells its version
pub title_injective : (a b : Version) → title_line a ≡ title_line b → a ≡ b
title_injective a b e =
    same_version a b
    (second_word_same (codes "hextree") (version_word a) (version_word b) (AllHigh-title_words a).0 (AllHigh-title_words a).1.0
    (AllHigh-title_words b).1.0 e)
  where
    same_version : (a b : Version) → version_word a ≡ version_word b → a ≡ b
    same_version One One same = refl
    same_version Two Two same = refl
    same_version One Two same = absurd (omega (arith, ap first_byte same))
    same_version Two One same = absurd (omega (arith, ap first_byte same))

-- the line of a size

abbrev pub size_words : ℕ → ℕ → List (List ℕ)
size_words rows cols = codes "size" ∷ decimal rows ∷ decimal cols ∷ []

pub AllHigh-size_words : (rows cols : ℕ) → IsNumber rows → IsNumber cols → AllHigh (size_words rows cols)
unfolding is_high
AllHigh-size_words rows cols few_rows few_cols =
    (IsHigh-test (codes "size") refl, (IsHigh-decimal rows few_rows, (IsHigh-decimal cols few_cols, tt)))

pub IsLine-size_words : (rows cols : ℕ) → IsNumber rows → IsNumber cols → IsLine (size_words rows cols)
IsLine-size_words rows cols few_rows few_cols =
    IsLine-high (codes "size") (decimal rows ∷ decimal cols ∷ []) (AllHigh-size_words rows cols few_rows few_cols)

pub words_in-size_line : (line : List ℕ) (size : Extent) → IsExtent size.rows size.cols → line ≡ size_line size
    → words_in line ≡ size_words size.rows size.cols
words_in-size_line line size extent e = ap words_in e
    ∙ words_in-spaced (size_words size.rows size.cols)
    (IsLine-size_words size.rows size.cols (omega (arith, extent)) (omega (arith, extent)))

-- the last line

abbrev pub end_words : ℕ → Colour → List (List ℕ)
end_words count winner = codes "end" ∷ decimal count ∷ colour_word winner ∷ []

pub AllHigh-end_words : (count : ℕ) (winner : Colour) → IsNumber count → AllHigh (end_words count winner)
unfolding is_high
AllHigh-end_words count winner small = (IsHigh-test (codes "end") refl, (IsHigh-decimal count small, (IsHigh-colour_word winner, tt)))

pub words_in-end_line : (line : List ℕ) (count : ℕ) (winner : Colour) → IsNumber count → line ≡ end_line count winner
    → words_in line ≡ end_words count winner
words_in-end_line line count winner small e =
    ap words_in e
    ∙ words_in-spaced (end_words count winner)
    (IsLine-high (codes "end") (decimal count ∷ colour_word winner ∷ []) (AllHigh-end_words count winner small))
