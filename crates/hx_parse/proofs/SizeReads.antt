-- What the reader of a size's line answers once it has taken all its words: the size that the line spells, and none
-- only where there is no board of that size.
use Rattle.std.proofs.Common.{◌≡◌, ℕ, List, Option, Some, None, refl, sym, ap, ◌∙◌, arith}
use Rattle.std.specs.Fmt.{decimal}
use Rattle.std.specs.Prelude.{SomeIff}
use Rattle.std.proofs.lemmas.Fmt.{decimal_injective}
use Rattle.hx_board.specs.Cells.{Extent, IsExtent}
use Rattle.hx_lex.specs.Words.{Reads, words_in, spaced, IsNumber}
use Rattle.hx_text.specs.PositionTexts.{size_line}
use Rattle.hx_lex.proofs.Spacing.{words_in-spaced}
use Rattle.hx_text.proofs.LineWords.{size_words, IsLine-size_words, words_in-size_line}

pub size_reads : (line : List ℕ) (rows cols : ℕ) (found : Option Extent) → IsNumber rows → IsNumber cols
    → line ≡ spaced (size_words rows cols)
    → SomeIff found (IsExtent rows cols) (record { rows = rows; cols = cols })
    → Reads size_line (λ (s : Extent). IsExtent s.rows s.cols) line found
size_reads line rows cols (Some s) few_rows few_cols e some = (rw some.1 some.0, e ∙ rw some.1 refl)
size_reads line rows cols None few_rows few_cols e none = λ s fits f.
    let words : size_words rows cols ≡ size_words s.rows s.cols =
    sym (words_in-spaced _ (IsLine-size_words rows cols few_rows few_cols)) ∙ ap words_in (sym e)
    ∙ words_in-size_line line s fits f in
    let same_rows : decimal rows ≡ decimal s.rows = cc in
    let same_cols : decimal cols ≡ decimal s.cols = cc in
    let rows_are : rows ≡ s.rows = decimal_injective rows s.rows (omega arith) (omega (arith, fits)) same_rows in
    let cols_are : cols ≡ s.cols = decimal_injective cols s.cols (omega arith) (omega (arith, fits)) same_cols in
    none (rw (rows_are, cols_are) fits)
