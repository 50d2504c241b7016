-- What is read from the line of an answer. After its cell the first word of the reason tells what its other words are:
-- the reasons `child`, `dead` and `pair` begin with different letters.
use Rattle.std.proofs.Common.{◌≡◌, ℕ, List, [], ◌∷◌, refl, sym, ap, ◌∙◌, arith, Option, Some, None}
use Rattle.std.specs.Prelude.{codes}
use Rattle.std.specs.Fmt.{decimal}
use Rattle.hx_board.specs.Cells.{Extent, IsExtent, OnBoard}
use Rattle.hx_board.specs.Finds.{Finds}
use Rattle.hx_inferior.specs.declared.dominations.Kill.TheVariants.{ByDead, ByPair}
use Rattle.hx_tree.specs.declared.nodes.Line.{Line}
use Rattle.hx_tree.specs.declared.nodes.Line.TheVariants.{Child, Under}
use Rattle.hx_tree.specs.Answers.{cell_of}
use Rattle.hx_lex.specs.Words.{Reads, IsNumber, cell_word, words_in}
use Rattle.hx_text.specs.Entries.{reason_words, answer_line, AnswerFits}
use Rattle.hx_parse.specs.EntryReads.{AnswersAt}
use Rattle.hx_lex.proofs.Cursors.{first_same, rest_same, word_then}
use Rattle.hx_text.proofs.StepWords.{letters_same}
use Rattle.hx_lex.proofs.Spacing.{line_from_words}
use Rattle.hx_lex.proofs.Injective.{cell_injective}
use Rattle.hx_text.proofs.AnswerLines.{words_in-answer_line}

-- ---- what is read after the cell

-- what is found in the words after the first is read from all the words

pub child_reads : (size : Extent) (cell : ℕ) (words rest : List (List ℕ)) (found : Option Line) → words ≡ codes "child" ∷ rest
    → Finds found (λ line. (child : ℕ) × (line ≡ Child cell child) × IsNumber child × (rest ≡ decimal child ∷ []))
    → Reads reason_words (AnswersAt size cell) words found
child_reads size cell words rest (Some line) first is = rw is.1 ((refl, is.2), word_then first is.3)
child_reads size cell words rest None first none = λ value fits e. no_child value fits e
  where
    no_child : (value : Line) → AnswersAt size cell value → words ≡ reason_words value → ⊥
    no_child (Child at child) fits e = none (Child at child) (child, ap (λ (c : ℕ). Child c child) fits.0, fits.1, rest_same first e)
    no_child (Under at better ByDead) fits e = absurd (omega (arith, letters_same first e))
    no_child (Under at better (ByPair partner)) fits e = absurd (omega (arith, letters_same first e))

pub dead_reads : (size : Extent) (cell : ℕ) (words rest : List (List ℕ)) (found : Option Line) → words ≡ codes "dead" ∷ rest
    → Finds found (λ line. (better : ℕ) × (line ≡ Under cell better ByDead) × OnBoard size better × (rest ≡ cell_word better ∷ []))
    → Reads reason_words (AnswersAt size cell) words found
dead_reads size cell words rest (Some line) first is = rw is.1 ((refl, is.2), word_then first is.3)
dead_reads size cell words rest None first none = λ value fits e. no_dead value fits e
  where
    no_dead : (value : Line) → AnswersAt size cell value → words ≡ reason_words value → ⊥
    no_dead (Under at better ByDead) fits e =
        none (Under at better ByDead) (better, ap (λ (c : ℕ). Under c better ByDead) fits.0, fits.1, rest_same first e)
    no_dead (Child at child) fits e = absurd (omega (arith, letters_same first e))
    no_dead (Under at better (ByPair partner)) fits e = absurd (omega (arith, letters_same first e))

pub pair_reads : (size : Extent) (cell : ℕ) (words rest : List (List ℕ)) (found : Option Line) → words ≡ codes "pair" ∷ rest
    → Finds found (λ line. (better partner : ℕ) × (line ≡ Under cell better (ByPair partner)) × OnBoard size better × OnBoard size partner
    × (rest ≡ cell_word better ∷ cell_word partner ∷ []))
    → Reads reason_words (AnswersAt size cell) words found
pair_reads size cell words rest (Some line) first is = rw is.2 ((refl, (is.3, is.4)), word_then first is.5)
pair_reads size cell words rest None first none = λ value fits e. no_pair value fits e
  where
    no_pair : (value : Line) → AnswersAt size cell value → words ≡ reason_words value → ⊥
    no_pair (Under at better (ByPair partner)) fits e =
        none (Under at better (ByPair partner))
        (better, partner, ap (λ (c : ℕ). Under c better (ByPair partner)) fits.0, fits.1.0, fits.1.1, rest_same first e)
    no_pair (Child at child) fits e = absurd (omega (arith, letters_same first e))
    no_pair (Under at better ByDead) fits e = absurd (omega (arith, letters_same first e))

-- the words begin with none of the three
pub no_reason : {words : List (List ℕ)} → ((rest : List (List ℕ)) → words ≡ codes "child" ∷ rest → ⊥)
    → ((rest : List (List ℕ)) → words ≡ codes "dead" ∷ rest → ⊥) → ((rest : List (List ℕ)) → words ≡ codes "pair" ∷ rest → ⊥)
    → (value : Line) → words ≡ reason_words value → ⊥
no_reason {words} no_child no_dead no_pair (Child at child) e = no_child (decimal child ∷ []) e
no_reason {words} no_child no_dead no_pair (Under at better ByDead) e = no_dead (cell_word better ∷ []) e
no_reason {words} no_child no_dead no_pair (Under at better (ByPair partner)) e = no_pair (cell_word better ∷ cell_word partner ∷ []) e

-- what is read from a line's words is read from the line
pub answer_reads : (size : Extent) (text : List ℕ) (words after rest : List (List ℕ)) (cell : ℕ) (found : Option Line)
    → IsExtent size.rows size.cols → words ≡ words_in text → words ≡ codes "line" ∷ after → OnBoard size cell
    → after ≡ cell_word cell ∷ rest
    → Reads reason_words (AnswersAt size cell) rest found → Reads answer_line (AnswerFits size) text found
answer_reads size text words after rest cell (Some line) extent same first on second reads =
    let same_cell : cell_of line ≡ cell = reads.0.0 in (
      (rw same_cell on, reads.0.1),
      line_from_words same (word_then first (word_then (second ∙ ap (λ (c : ℕ). cell_word c ∷ rest) (sym same_cell)) reads.1)),
    )
answer_reads size text words after rest cell None extent same first on second reads = λ value fits e.
    let at_cell = rest_same first (same ∙ words_in-answer_line size text value extent fits e) in
    let same_cell : cell ≡ cell_of value = cell_injective size cell (cell_of value) extent.1 on fits.0 (first_same second at_cell) in
    reads value (sym same_cell, fits.1) (rest_same second at_cell)
