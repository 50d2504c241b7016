-- The lines of fill steps. Their words are of high bytes, so each line gives back the words that it was spelled from.
use Rattle.std.proofs.Common.{◌≡◌, ℕ, ◌≤◌, List, [], ◌∷◌, refl, ap, ◌∙◌, arith}
use Rattle.std.specs.Prelude.{codes}
use Rattle.hx_board.specs.Cells.{Extent, IsExtent, OnBoard}
use Rattle.hx_inferior.specs.declared.fills.FillStep.{FillStep}
use Rattle.hx_inferior.specs.declared.fills.FillStep.TheVariants.{Other, Dead, Pair}
use Rattle.hx_lex.specs.Words.{cell_word, words_in}
use Rattle.hx_text.specs.FillTexts.{fill_words, fill_line, FillFits}
use Rattle.hx_lex.proofs.Spacing.{IsLine, words_in-spaced}
use Rattle.hx_lex.proofs.HighBytes.{AllHigh, is_high, IsHigh-test, IsHigh-cell_word, IsLine-high}

pub AllHigh-fill_words : (size : Extent) (fill : FillStep) → size.rows ≤ 11 → FillFits size fill → AllHigh (fill_words fill)
unfolding is_high
AllHigh-fill_words size (Other cell) few on = (IsHigh-test (codes "other") refl, (IsHigh-cell_word cell (omega (arith, on.row)), tt))
AllHigh-fill_words size (Dead cell) few on = (IsHigh-test (codes "dead") refl, (IsHigh-cell_word cell (omega (arith, on.row)), tt))
AllHigh-fill_words size (Pair a b) few fits =
    let on : OnBoard size a = fits.0 in
    let also : OnBoard size b = fits.1 in
    (IsHigh-test (codes "pair") refl, (IsHigh-cell_word a (omega (arith, on.row)), (IsHigh-cell_word b (omega (arith, also.row)), tt)))

pub IsLine-fill_words : (size : Extent) (fill : FillStep) → size.rows ≤ 11 → FillFits size fill → IsLine (fill_words fill)
IsLine-fill_words size (Other cell) few fits =
    IsLine-high (codes "other") (cell_word cell ∷ []) (AllHigh-fill_words size (Other cell) few fits)
IsLine-fill_words size (Dead cell) few fits =
    IsLine-high (codes "dead") (cell_word cell ∷ []) (AllHigh-fill_words size (Dead cell) few fits)
IsLine-fill_words size (Pair a b) few fits =
    IsLine-high (codes "pair") (cell_word a ∷ cell_word b ∷ []) (AllHigh-fill_words size (Pair a b) few fits)

pub words_in-fill_line : (size : Extent) (line : List ℕ) (fill : FillStep) → IsExtent size.rows size.cols → FillFits size fill
    → line ≡ fill_line fill → words_in line ≡ fill_words fill
words_in-fill_line size line fill extent fits e = ap words_in e
    ∙ words_in-spaced (fill_words fill) (IsLine-fill_words size fill extent.1 fits)
