-- What is read from the line of a fill step. The first word tells what the other words are: `other`, `dead` and `pair`
-- begin with different letters.
use Rattle.std.proofs.Common.{◌≡◌, ℕ, List, [], ◌∷◌, refl, ◌∙◌, arith, Option, Some, None, Bool, true, false}
use Rattle.std.specs.Prelude.{codes}
use Rattle.hx_board.specs.Cells.{Extent, IsExtent, OnBoard}
use Rattle.hx_board.specs.Finds.{Finds}
use Rattle.hx_inferior.specs.declared.fills.FillStep.{FillStep}
use Rattle.hx_inferior.specs.declared.fills.FillStep.TheVariants.{Other, Dead, Pair}
use Rattle.hx_lex.specs.Words.{Reads, cell_word, words_in}
use Rattle.hx_text.specs.FillTexts.{fill_words, fill_line, FillFits}
use Rattle.hx_lex.proofs.Cursors.{rest_same, word_then}
use Rattle.hx_text.proofs.StepWords.{letters_same}
use Rattle.hx_lex.proofs.Spacing.{line_from_words}
use Rattle.hx_text.proofs.FillLines.{words_in-fill_line}

-- ---- what is read

-- what is found in the words after the first is read from all the words

-- a fill step on one cell, which is the opponent's or dead
abbrev one_word : Bool → List ℕ
one_word true = codes "dead"
one_word false = codes "other"

abbrev one_fill : Bool → ℕ → FillStep
one_fill true cell = Dead cell
one_fill false cell = Other cell

abbrev IsOneFill : Bool → Extent → List (List ℕ) → FillStep → Type 0
IsOneFill dead size rest fill = (cell : ℕ) × (fill ≡ one_fill dead cell) × OnBoard size cell × (rest ≡ cell_word cell ∷ [])

no_one_fill : (dead : Bool) (size : Extent) (value : FillStep) (words rest : List (List ℕ)) → words ≡ one_word dead ∷ rest
    → ((fill : FillStep) → IsOneFill dead size rest fill → ⊥) → FillFits size value → words ≡ fill_words value → ⊥
no_one_fill true size (Dead cell) words rest first none fits e = none (Dead cell) (cell, refl, fits, rest_same first e)
no_one_fill false size (Other cell) words rest first none fits e = none (Other cell) (cell, refl, fits, rest_same first e)
no_one_fill true size value words rest first none fits e = absurd (omega (arith, letters_same first e))
no_one_fill false size value words rest first none fits e = absurd (omega (arith, letters_same first e))

pub one_reads : (dead : Bool) (size : Extent) (words rest : List (List ℕ)) (found : Option FillStep) → words ≡ one_word dead ∷ rest
    → Finds found (IsOneFill dead size rest) → Reads fill_words (FillFits size) words found
one_reads true size words rest (Some fill) first is = rw is.1 (is.2, word_then first is.3)
one_reads false size words rest (Some fill) first is = rw is.1 (is.2, word_then first is.3)
one_reads dead size words rest None first none = λ value fits e. no_one_fill dead size value words rest first none fits e

pub pair_reads : (size : Extent) (words rest : List (List ℕ)) (found : Option FillStep) → words ≡ codes "pair" ∷ rest
    → Finds found (λ fill. (a b : ℕ) × (fill ≡ Pair a b) × OnBoard size a × OnBoard size b × (rest ≡ cell_word a ∷ cell_word b ∷ []))
    → Reads fill_words (FillFits size) words found
pair_reads size words rest (Some fill) first is = rw is.2 ((is.3, is.4), word_then first is.5)
pair_reads size words rest None first none = λ value fits e. no_pair value fits e
  where
    no_pair : (value : FillStep) → FillFits size value → words ≡ fill_words value → ⊥
    no_pair (Pair a b) fits e = none (Pair a b) (a, b, refl, fits.0, fits.1, rest_same first e)
    no_pair value fits e = absurd (omega (arith, letters_same first e))

-- the words begin with none of the three
pub no_fill_step : {words : List (List ℕ)} → ((rest : List (List ℕ)) → words ≡ codes "other" ∷ rest → ⊥)
    → ((rest : List (List ℕ)) → words ≡ codes "dead" ∷ rest → ⊥) → ((rest : List (List ℕ)) → words ≡ codes "pair" ∷ rest → ⊥)
    → (value : FillStep) → words ≡ fill_words value → ⊥
no_fill_step {words} no_other no_dead no_pair (Other cell) e = no_other (cell_word cell ∷ []) e
no_fill_step {words} no_other no_dead no_pair (Dead cell) e = no_dead (cell_word cell ∷ []) e
no_fill_step {words} no_other no_dead no_pair (Pair a b) e = no_pair (cell_word a ∷ cell_word b ∷ []) e

-- what is read from a line's words is read from the line
pub fill_reads : (size : Extent) (line : List ℕ) (words : List (List ℕ)) (found : Option FillStep)
    → IsExtent size.rows size.cols → words ≡ words_in line → Reads fill_words (FillFits size) words found
    → Reads fill_line (FillFits size) line found
fill_reads size line words (Some fill) extent same reads = (reads.0, line_from_words same reads.1)
fill_reads size line words None extent same reads =
    λ value fits e. reads value fits (same ∙ words_in-fill_line size line value extent fits e)
