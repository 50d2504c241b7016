-- The line of an answer to a move. Its words are of high bytes, so it gives back the words that it was spelled from.
use Rattle.std.proofs.Common.{◌≡◌, ℕ, ◌≤◌, List, ◌∷◌, refl, ap, ◌∙◌, arith}
use Rattle.std.specs.Prelude.{codes}
use Rattle.hx_board.specs.Cells.{Extent, IsExtent, OnBoard}
use Rattle.hx_inferior.specs.declared.dominations.Kill.TheVariants.{ByDead, ByPair}
use Rattle.hx_tree.specs.declared.nodes.Line.{Line}
use Rattle.hx_tree.specs.declared.nodes.Line.TheVariants.{Child, Under}
use Rattle.hx_tree.specs.Answers.{cell_of}
use Rattle.hx_lex.specs.Words.{cell_word, words_in}
use Rattle.hx_text.specs.Entries.{reason_words, answer_words, answer_line, ReasonFits, AnswerFits}
use Rattle.hx_lex.proofs.Spacing.{IsLine, words_in-spaced}
use Rattle.hx_lex.proofs.HighBytes.{AllHigh, is_high, IsHigh-test, IsHigh-decimal, IsHigh-cell_word, IsLine-high}

AllHigh-reason_words : (size : Extent) (line : Line) → size.rows ≤ 11 → ReasonFits size line → AllHigh (reason_words line)
unfolding is_high
AllHigh-reason_words size (Child cell child) few fits = (IsHigh-test (codes "child") refl, (IsHigh-decimal child fits, tt))
AllHigh-reason_words size (Under cell better ByDead) few on =
    (IsHigh-test (codes "dead") refl, (IsHigh-cell_word better (omega (arith, on.row)), tt))
AllHigh-reason_words size (Under cell better (ByPair partner)) few fits =
    let on : OnBoard size better = fits.0 in
    let also : OnBoard size partner = fits.1 in (
      IsHigh-test (codes "pair") refl,
      (IsHigh-cell_word better (omega (arith, on.row)), (IsHigh-cell_word partner (omega (arith, also.row)), tt)),
    )

pub AllHigh-answer_words : (size : Extent) (line : Line) → size.rows ≤ 11 → AnswerFits size line → AllHigh (answer_words line)
unfolding is_high
AllHigh-answer_words size line few fits =
    let on : OnBoard size (cell_of line) = fits.0 in
    (IsHigh-test (codes "line") refl, (IsHigh-cell_word (cell_of line) (omega (arith, on.row)), AllHigh-reason_words size line few fits.1))

pub IsLine-answer_words : (size : Extent) (line : Line) → size.rows ≤ 11 → AnswerFits size line → IsLine (answer_words line)
IsLine-answer_words size line few fits =
    IsLine-high (codes "line") (cell_word (cell_of line) ∷ reason_words line) (AllHigh-answer_words size line few fits)

pub words_in-answer_line : (size : Extent) (text : List ℕ) (line : Line) → IsExtent size.rows size.cols → AnswerFits size line
    → text ≡ answer_line line → words_in text ≡ answer_words line
words_in-answer_line size text line extent fits e =
    ap words_in e ∙ words_in-spaced (answer_words line) (IsLine-answer_words size line extent.1 fits)
