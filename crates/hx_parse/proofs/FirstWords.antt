-- The first word of a line tells what its other words are: those of a step, or those of a rule's opening. Where the
-- other words are none of that kind, the line's words are those of no step and of no opening, since the first words of
-- each kind begin with different letters.
use Rattle.std.proofs.Common.{◌≡◌, ℕ, ◌<◌, ◌≤◌, List, [], ◌∷◌, length, map, refl}
use Rattle.std.proofs.Common.{sym, ◌∙◌, arith, Option, Some, None, Result, Ok, Err, Bool, true, false}
use Rattle.std.specs.Prelude.{codes}
use Rattle.std.specs.List.{All as EachItem}
use Rattle.std.specs.Result.{IfOk, OnErr}
use Rattle.std.specs.Fmt.{decimal}
use Rattle.hx_board.specs.declared.vertices.Vertex.{Vertex}
use Rattle.hx_board.specs.Cells.{Extent, IsExtent, OnBoard}
use Rattle.hx_board.specs.Finds.{Finds}
use Rattle.hx_board.specs.Graph.{IsVertex}
use Rattle.hx_link.specs.declared.steps.Step.{Step}
use Rattle.hx_link.specs.declared.steps.Step.TheVariants.{Base, AndStone, AndCell, Or}
use Rattle.hx_board.specs.declared.cells.TheConstants.{CELLS}
use Rattle.hx_link.specs.declared.parts.TheConstants.{MOST_PARTS}
use Rattle.hx_tree.specs.declared.steps.TheConstants.{MOST_STEPS, MOST_THREATS}
use Rattle.hx_text.specs.declared.heads.Opening.{Opening}
use Rattle.hx_text.specs.declared.heads.Opening.TheVariants.{Chain, Links, Move, All, Fill, Turned}
use Rattle.hx_text.specs.declared.versions.Version.TheVariants.{Two}
use Rattle.hx_text.specs.declared.versions.Preamble.{Preamble}
use Rattle.hx_lex.specs.Words.{Reads, IsNumber, words_in, cell_word, vertex_word}
use Rattle.hx_text.specs.StepTexts.{step_words, step_line, StepFits}
use Rattle.hx_parse.specs.Ors.{BeginsLongOr}
use Rattle.hx_text.specs.TreeTexts.{opening_words, OpeningFits}
use Rattle.hx_parse.specs.EntryReads.{UnturnedFits}
use Rattle.hx_lex.proofs.Cursors.{rest_same, word_then}
use Rattle.hx_lex.proofs.Spacing.{line_from_words}
use Rattle.hx_text.proofs.StepWords.{letters_same, words_in-step_line}

-- ---- steps

-- the words after `base` are those of this step
abbrev AreBaseWords : Extent → List (List ℕ) → Step → Type 0
AreBaseWords size rest step =
    (a b : Vertex) × (step ≡ Base a b) × IsVertex size a × IsVertex size b × (rest ≡ vertex_word a ∷ vertex_word b ∷ [])

no_base : (size : Extent) (value : Step) (words rest : List (List ℕ)) → words ≡ codes "base" ∷ rest
    → ((step : Step) → AreBaseWords size rest step → ⊥) → StepFits size value → words ≡ step_words value → ⊥
no_base size (Base a b) words rest first none fits e = none (Base a b) (a, b, refl, fits.0, fits.1, rest_same first e)
no_base size value words rest first none fits e = absurd (omega (arith, letters_same first e))

pub base_reads : (size : Extent) (words rest : List (List ℕ)) (found : Option Step) → words ≡ codes "base" ∷ rest
    → Finds found (AreBaseWords size rest)
    → Reads step_words (StepFits size) words found
base_reads size words rest (Some step) first is = rw is.2 ((is.3, is.4), word_then first is.5)
base_reads size words rest None first none = λ value fits e. no_base size value words rest first none fits e

-- an And over an own vertex, or over an empty cell
abbrev and_word : Bool → List ℕ
and_word true = codes "stone"
and_word false = codes "cell"

abbrev and_of : Bool → ℕ → ℕ → Step
and_of true left right = AndStone left right
and_of false left right = AndCell left right

-- the words after the first are those of this And
abbrev AreAndWords : Bool → List (List ℕ) → Step → Type 0
AreAndWords own rest step =
    (left right : ℕ) × (step ≡ and_of own left right) × IsNumber left × IsNumber right × (rest ≡ decimal left ∷ decimal right ∷ [])

no_and : (own : Bool) (size : Extent) (value : Step) (words rest : List (List ℕ)) → words ≡ and_word own ∷ rest
    → ((step : Step) → AreAndWords own rest step → ⊥) → StepFits size value → words ≡ step_words value → ⊥
no_and true size (AndStone left right) words rest first none fits e =
    none (AndStone left right) (left, right, refl, fits.0, fits.1, rest_same first e)
no_and false size (AndCell left right) words rest first none fits e =
    none (AndCell left right) (left, right, refl, fits.0, fits.1, rest_same first e)
no_and true size value words rest first none fits e = absurd (omega (arith, letters_same first e))
no_and false size value words rest first none fits e = absurd (omega (arith, letters_same first e))

pub and_reads : (own : Bool) (size : Extent) (words rest : List (List ℕ)) (found : Option Step) → words ≡ and_word own ∷ rest
    → Finds found (AreAndWords own rest)
    → Reads step_words (StepFits size) words found
and_reads true size words rest (Some step) first is = rw is.2 ((is.3, is.4), word_then first is.5)
and_reads false size words rest (Some step) first is = rw is.2 ((is.3, is.4), word_then first is.5)
and_reads own size words rest None first none = λ value fits e. no_and own size value words rest first none fits e

pub or_reads : {E : Type 0} (size : Extent) (words rest : List (List ℕ)) (found : Result (Option Step) E) → words ≡ codes "or" ∷ rest
    → IfOk found (λ read. Finds read (λ step. (parts : List ℕ) × (step ≡ Or parts) × (length parts ≤ MOST_PARTS) × EachItem IsNumber parts
    × (rest ≡ map decimal parts)))
    → IfOk found (Reads step_words (StepFits size) words)
or_reads size words rest (Ok (Some step)) first is = rw is.1 ((is.2, is.3), word_then first is.4)
or_reads size words rest (Err error) first is = tt
or_reads size words rest (Ok None) first none = λ value fits e. no_or value fits e
  where
    no_or : (value : Step) → StepFits size value → words ≡ step_words value → ⊥
    no_or (Or parts) fits e = none (Or parts) (parts, refl, fits.0, fits.1, rest_same first e)
    no_or value fits e = absurd (omega (arith, letters_same first e))

-- where the parts are read after the first word
pub or_memory : {T E : Type 0} (words rest : List (List ℕ)) (found : Result T E) → words ≡ codes "or" ∷ rest
    → OnErr found (8 < length rest) → OnErr found ((parts : List (List ℕ)) × (words ≡ codes "or" ∷ parts) × (8 < length parts))
or_memory words rest (Ok done) first many = tt
or_memory words rest (Err error) first many = (rest, first, many)

-- the words begin with none of the four
pub no_step : {words : List (List ℕ)} → ((rest : List (List ℕ)) → words ≡ codes "base" ∷ rest → ⊥)
    → ((rest : List (List ℕ)) → words ≡ codes "stone" ∷ rest → ⊥) → ((rest : List (List ℕ)) → words ≡ codes "cell" ∷ rest → ⊥)
    → ((rest : List (List ℕ)) → words ≡ codes "or" ∷ rest → ⊥) → (value : Step) → words ≡ step_words value → ⊥
no_step {words} no_base no_stone no_cell no_or (Base a b) e = no_base (vertex_word a ∷ vertex_word b ∷ []) e
no_step {words} no_base no_stone no_cell no_or (AndStone left right) e = no_stone (decimal left ∷ decimal right ∷ []) e
no_step {words} no_base no_stone no_cell no_or (AndCell left right) e = no_cell (decimal left ∷ decimal right ∷ []) e
no_step {words} no_base no_stone no_cell no_or (Or parts) e = no_or (map decimal parts) e

-- what is read from a line's words is read from the line
pub step_reads : {E : Type 0} (size : Extent) (line : List ℕ) (words : List (List ℕ)) (found : Result (Option Step) E)
    → IsExtent size.rows size.cols → words ≡ words_in line → IfOk found (Reads step_words (StepFits size) words)
    → IfOk found (Reads step_line (StepFits size) line)
step_reads size line words (Ok (Some step)) extent same reads = (reads.0, line_from_words same reads.1)
step_reads size line words (Ok None) extent same reads =
    λ value fits e. reads value fits (same ∙ words_in-step_line size line value extent fits e)
step_reads size line words (Err error) extent same reads = tt

-- the words of an Or are those of its line
pub or_of_line : {T E : Type 0} (line : List ℕ) (words : List (List ℕ)) (found : Result T E) → words ≡ words_in line
    → OnErr found ((parts : List (List ℕ)) × (words ≡ codes "or" ∷ parts) × (8 < length parts)) → OnErr found (BeginsLongOr line)
or_of_line line words (Ok done) same is = tt
or_of_line line words (Err error) same is = record { words = is.0; same = line_from_words same is.1; many = is.2 }

-- ---- openings

pub chain_reads : (preamble : Preamble) (words rest : List (List ℕ)) (found : Option Opening) → words ≡ codes "chain" ∷ rest
    → Finds found (λ opening. (opening ≡ Chain) × (rest ≡ []))
    → Reads opening_words (UnturnedFits preamble) words found
chain_reads preamble words rest (Some opening) first is = rw is.0 ((tt, tt), word_then first is.1)
chain_reads preamble words rest None first none = λ value fits e. no_chain value fits e
  where
    no_chain : (value : Opening) → UnturnedFits preamble value → words ≡ opening_words value → ⊥
    no_chain Chain fits e = none Chain (refl, rest_same first e)
    no_chain value fits e = absurd (omega (arith, letters_same first e))

pub links_reads : (preamble : Preamble) (words rest : List (List ℕ)) (found : Option Opening) → words ≡ codes "links" ∷ rest
    → Finds found (λ opening. (steps : ℕ) × (opening ≡ Links steps) × (steps ≤ MOST_STEPS) × (rest ≡ decimal steps ∷ []))
    → Reads opening_words (UnturnedFits preamble) words found
links_reads preamble words rest (Some opening) first is = rw is.1 ((is.2, tt), word_then first is.3)
links_reads preamble words rest None first none = λ value fits e. no_links value fits e
  where
    no_links : (value : Opening) → UnturnedFits preamble value → words ≡ opening_words value → ⊥
    no_links (Links steps) fits e = none (Links steps) (steps, refl, fits.0, rest_same first e)
    no_links value fits e = absurd (omega (arith, letters_same first e))

pub move_reads : (preamble : Preamble) (words rest : List (List ℕ)) (found : Option Opening) → words ≡ codes "move" ∷ rest
    → Finds found (λ opening. (cell child : ℕ) × (opening ≡ Move cell child) × OnBoard preamble.size cell × IsNumber child
    × (rest ≡ cell_word cell ∷ decimal child ∷ []))
    → Reads opening_words (UnturnedFits preamble) words found
move_reads preamble words rest (Some opening) first is = rw is.2 (((is.3, is.4), tt), word_then first is.5)
move_reads preamble words rest None first none = λ value fits e. no_move value fits e
  where
    no_move : (value : Opening) → UnturnedFits preamble value → words ≡ opening_words value → ⊥
    no_move (Move cell child) fits e = none (Move cell child) (cell, child, refl, fits.0.0, fits.0.1, rest_same first e)
    no_move value fits e = absurd (omega (arith, letters_same first e))

pub all_reads : (preamble : Preamble) (words rest : List (List ℕ)) (found : Option Opening) → words ≡ codes "all" ∷ rest
    → Finds found (λ opening. (steps threats lines : ℕ) × (opening ≡ All steps threats lines) × (steps ≤ MOST_STEPS)
    × (threats ≤ MOST_THREATS)
    × (lines ≤ CELLS) × (rest ≡ decimal steps ∷ decimal threats ∷ decimal lines ∷ []))
    → Reads opening_words (UnturnedFits preamble) words found
all_reads preamble words rest (Some opening) first is = rw is.3 (((is.4, is.5, is.6), tt), word_then first is.7)
all_reads preamble words rest None first none = λ value fits e. no_all value fits e
  where
    no_all : (value : Opening) → UnturnedFits preamble value → words ≡ opening_words value → ⊥
    no_all (All steps threats lines) fits e =
        none (All steps threats lines) (steps, threats, lines, refl, fits.0.0, fits.0.1, fits.0.2, rest_same first e)
    no_all value fits e = absurd (omega (arith, letters_same first e))

pub fills_reads : (preamble : Preamble) (words rest : List (List ℕ)) (found : Option Opening) → words ≡ codes "fill" ∷ rest
    → Finds found (λ opening. (fills child : ℕ) × (opening ≡ Fill fills child) × (fills ≤ CELLS) × IsNumber child
    × (rest ≡ decimal fills ∷ decimal child ∷ []))
    → Reads opening_words (UnturnedFits preamble) words found
fills_reads preamble words rest (Some opening) first is = rw is.2 (((is.3, is.4), tt), word_then first is.5)
fills_reads preamble words rest None first none = λ value fits e. no_fills value fits e
  where
    no_fills : (value : Opening) → UnturnedFits preamble value → words ≡ opening_words value → ⊥
    no_fills (Fill fills child) fits e = none (Fill fills child) (fills, child, refl, fits.0.0, fits.0.1, rest_same first e)
    no_fills value fits e = absurd (omega (arith, letters_same first e))

-- the words begin with none of the five
module _ {words : List (List ℕ)} (no_chain : (rest : List (List ℕ)) → words ≡ codes "chain" ∷ rest → ⊥)
    (no_links : (rest : List (List ℕ)) → words ≡ codes "links" ∷ rest → ⊥)
    (no_move : (rest : List (List ℕ)) → words ≡ codes "move" ∷ rest → ⊥)
    (no_all : (rest : List (List ℕ)) → words ≡ codes "all" ∷ rest → ⊥)
    (no_fill : (rest : List (List ℕ)) → words ≡ codes "fill" ∷ rest → ⊥) where
  pub no_unturned : (preamble : Preamble) (value : Opening) → UnturnedFits preamble value → words ≡ opening_words value → ⊥
  no_unturned preamble Chain fits e = no_chain [] e
  no_unturned preamble (Links steps) fits e = no_links (decimal steps ∷ []) e
  no_unturned preamble (Move cell child) fits e = no_move (cell_word cell ∷ decimal child ∷ []) e
  no_unturned preamble (All steps threats lines) fits e = no_all (decimal steps ∷ decimal threats ∷ decimal lines ∷ []) e
  no_unturned preamble (Fill fills child) fits e = no_fill (decimal fills ∷ decimal child ∷ []) e
  no_unturned preamble (Turned child) fits e = fits.1

-- the words of an opening that begin with `turned`, or with no such word
pub turned_reads : (preamble : Preamble) (words rest : List (List ℕ)) (found : Option Opening) → words ≡ codes "turned" ∷ rest
    → Finds found (λ opening. (child : ℕ) × (opening ≡ Turned child) × (preamble.version ≡ Two) × IsNumber child
    × (rest ≡ decimal child ∷ []))
    → Reads opening_words (OpeningFits preamble) words found
turned_reads preamble words rest (Some opening) first is = rw is.1 ((is.2, is.3), word_then first is.4)
turned_reads preamble words rest None first none = λ value fits e. no_turned value fits e
  where
    no_turned : (value : Opening) → OpeningFits preamble value → words ≡ opening_words value → ⊥
    no_turned (Turned child) fits e = none (Turned child) (child, refl, fits.0, fits.1, rest_same first e)
    no_turned value fits e = absurd (omega (arith, letters_same first e))

pub unturned_reads : (preamble : Preamble) (words kept : List (List ℕ)) (found : Option Opening)
    → ((rest : List (List ℕ)) → words ≡ codes "turned" ∷ rest → ⊥) → kept ≡ words
    → Reads opening_words (UnturnedFits preamble) kept found → Reads opening_words (OpeningFits preamble) words found
unturned_reads preamble words kept (Some opening) other same reads = (reads.0.0, sym same ∙ reads.1)
unturned_reads preamble words kept None other same reads = λ value fits e. none value fits e
  where
    none : (value : Opening) → OpeningFits preamble value → words ≡ opening_words value → ⊥
    none Chain fits e = reads Chain (fits, tt) (same ∙ e)
    none (Links steps) fits e = reads (Links steps) (fits, tt) (same ∙ e)
    none (Move cell child) fits e = reads (Move cell child) (fits, tt) (same ∙ e)
    none (All steps threats lines) fits e = reads (All steps threats lines) (fits, tt) (same ∙ e)
    none (Fill fills child) fits e = reads (Fill fills child) (fits, tt) (same ∙ e)
    none (Turned child) fits e = other (decimal child ∷ []) e
