-- Different values have different lines: sizes and the last line of a tree's text.
use Rattle.std.proofs.Common.{◌≡◌, ℕ, refl, sym, ap, ◌∙◌, arith}
use Rattle.std.specs.Fmt.{decimal}
use Rattle.hx_board.specs.declared.colours.Colour.{Colour}
use Rattle.hx_board.specs.Cells.{Extent, IsExtent}
use Rattle.hx_lex.specs.Words.{colour_word, IsNumber}
use Rattle.hx_text.specs.PositionTexts.{size_line}
use Rattle.hx_text.specs.TreeTexts.{end_line}
use Rattle.hx_text.proofs.LineWords.{size_words, end_words, words_in-size_line, words_in-end_line}
use Rattle.hx_lex.proofs.Injective.{number_injective, colour_injective}

abbrev extent_of : ℕ → ℕ → Extent
extent_of rows cols = record { rows = rows; cols = cols }

extent_same : (a b : Extent) → a.rows ≡ b.rows → a.cols ≡ b.cols → a ≡ b
extent_same a b r k = ap (λ (x : ℕ). extent_of x a.cols) r ∙ ap (λ (x : ℕ). extent_of b.rows x) k

pub size_injective : (a b : Extent) → IsExtent a.rows a.cols → IsExtent b.rows b.cols → size_line a ≡ size_line b → a ≡ b
size_injective a b fa fb e =
    let words : size_words a.rows a.cols ≡ size_words b.rows b.cols =
    sym (words_in-size_line (size_line a) a fa refl) ∙ words_in-size_line (size_line a) b fb e in
    let rows : decimal a.rows ≡ decimal b.rows = cc in
    let cols : decimal a.cols ≡ decimal b.cols = cc in
    let same_rows : a.rows ≡ b.rows = number_injective a.rows b.rows (omega (arith, fa)) (omega (arith, fb)) rows in
    let same_cols : a.cols ≡ b.cols = number_injective a.cols b.cols (omega (arith, fa)) (omega (arith, fb)) cols in
    extent_same a b same_rows same_cols

pub end_injective : (count n : ℕ) (winner w : Colour) → IsNumber count → IsNumber n → end_line count winner ≡ end_line n w
    → (count ≡ n) × (winner ≡ w)
end_injective count n winner w small few e =
    let words : end_words count winner ≡ end_words n w =
    sym (words_in-end_line (end_line count winner) count winner small refl)
    ∙ words_in-end_line (end_line count winner) n w few e in
    let counts : decimal count ≡ decimal n = cc in
    let winners : colour_word winner ≡ colour_word w = cc in
    (number_injective count n small few counts, colour_injective winner w winners)
