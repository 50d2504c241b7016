-- Different entries have different lines: the first word of a step or of a fill step tells which kind it is, and its
-- other words tell what it names; a threat is its place, and an answer its cell and the words of its reason.
use Rattle.std.proofs.Common.{◌≡◌, ℕ, ◌≤◌, List, [], ◌∷◌, map, refl, sym, ap, ◌∙◌, arith}
use Rattle.std.specs.Prelude.{All}
use Rattle.std.specs.Fmt.{decimal}
use Rattle.std.proofs.lemmas.List.Elements.{All-head, All-tail}
use Rattle.hx_board.specs.Cells.{Extent, IsExtent}
use Rattle.hx_inferior.specs.declared.fills.FillStep.{FillStep}
use Rattle.hx_inferior.specs.declared.fills.FillStep.TheVariants.{Other, Dead, Pair}
use Rattle.hx_inferior.specs.declared.dominations.Kill.TheVariants.{ByDead, ByPair}
use Rattle.hx_link.specs.declared.steps.Step.{Step}
use Rattle.hx_link.specs.declared.steps.Step.TheVariants.{Base, AndStone, AndCell, Or}
use Rattle.hx_tree.specs.declared.nodes.Line.{Line}
use Rattle.hx_tree.specs.declared.nodes.Line.TheVariants.{Child, Under}
use Rattle.hx_tree.specs.Answers.{cell_of}
use Rattle.hx_text.specs.declared.entries.Entry.{Entry}
use Rattle.hx_text.specs.declared.entries.Entry.TheVariants.{Step as Step_entry, Threat as Threat_entry, Answer as Answer_entry}
use Rattle.hx_text.specs.declared.entries.Entry.TheVariants.{Fill as Fill_entry}
use Rattle.hx_lex.specs.Words.{cell_word, IsNumber, vertex_word}
use Rattle.hx_text.specs.StepTexts.{step_words, step_line, threat_words, threat_line, StepFits}
use Rattle.hx_text.specs.FillTexts.{fill_words, fill_line, FillFits}
use Rattle.hx_text.specs.Entries.{reason_words, answer_words, answer_line, ReasonFits, AnswerFits, entry_line, kind_of, EntryFits}
use Rattle.hx_lex.proofs.Spacing.{spaced_injective}
use Rattle.hx_text.proofs.StepWords.{first_letter, IsLine-step_words, words_in-threat_line}
use Rattle.hx_text.proofs.AnswerLines.{IsLine-answer_words}
use Rattle.hx_text.proofs.FillLines.{IsLine-fill_words}
use Rattle.hx_lex.proofs.Injective.{number_injective, cell_injective, vertex_injective}

-- ---- steps

decimals_injective : (a b : List ℕ) → All IsNumber a → All IsNumber b → map decimal a ≡ map decimal b → a ≡ b
decimals_injective [] [] small_a small_b e = refl
decimals_injective [] (b ∷ later) small_a small_b e = cc
decimals_injective (a ∷ more) [] small_a small_b e = cc
decimals_injective (a ∷ more) (b ∷ later) small_a small_b e =
    let firsts : decimal a ≡ decimal b = cc in
    let tails : map decimal more ≡ map decimal later = cc in
    let first : a ≡ b = number_injective a b (All-head IsNumber a more small_a) (All-head IsNumber b later small_b) firsts in
    let rest : more ≡ later =
    decimals_injective more later (All-tail IsNumber a more small_a) (All-tail IsNumber b later small_b) tails in
    cc

step_words_injective : (size : Extent) (a b : Step) → size.rows ≤ 11 → StepFits size a → StepFits size b → step_words a ≡ step_words b
    → a ≡ b
step_words_injective size (Base a c) (Base b d) few fits_a fits_b e =
    let firsts : vertex_word a ≡ vertex_word b = cc in
    let seconds : vertex_word c ≡ vertex_word d = cc in
    let first : a ≡ b = vertex_injective size a b few fits_a.0 fits_b.0 firsts in
    let second : c ≡ d = vertex_injective size c d few fits_a.1 fits_b.1 seconds in
    cc
step_words_injective size (AndStone a c) (AndStone b d) few fits_a fits_b e =
    let firsts : decimal a ≡ decimal b = cc in
    let seconds : decimal c ≡ decimal d = cc in
    let first : a ≡ b = number_injective a b fits_a.0 fits_b.0 firsts in
    let second : c ≡ d = number_injective c d fits_a.1 fits_b.1 seconds in
    cc
step_words_injective size (AndCell a c) (AndCell b d) few fits_a fits_b e =
    let firsts : decimal a ≡ decimal b = cc in
    let seconds : decimal c ≡ decimal d = cc in
    let first : a ≡ b = number_injective a b fits_a.0 fits_b.0 firsts in
    let second : c ≡ d = number_injective c d fits_a.1 fits_b.1 seconds in
    cc
step_words_injective size (Or a) (Or b) few fits_a fits_b e =
    let numbers : map decimal a ≡ map decimal b = cc in
    ap (λ (parts : List ℕ). Or parts) (decimals_injective a b fits_a.1 fits_b.1 numbers)
step_words_injective size a b few fits_a fits_b e =
    let letters : first_letter (step_words a) ≡ first_letter (step_words b) = ap first_letter e in
    absurd (omega (arith, letters))

pub step_injective : (size : Extent) (a b : Step) → IsExtent size.rows size.cols → StepFits size a → StepFits size b
    → step_line a ≡ step_line b → a ≡ b
step_injective size a b extent fits_a fits_b e =
    step_words_injective size a b extent.1 fits_a fits_b
    (spaced_injective (step_words a) (step_words b) (IsLine-step_words size a extent.1 fits_a) (IsLine-step_words size b extent.1 fits_b) e)

-- ---- threats

pub threat_injective : (a b : ℕ) → IsNumber a → IsNumber b → threat_line a ≡ threat_line b → a ≡ b
threat_injective a b small few e =
    let words : threat_words a ≡ threat_words b =
    sym (words_in-threat_line (threat_line a) a small refl) ∙ words_in-threat_line (threat_line a) b few e in
    let places : decimal a ≡ decimal b = cc in
    number_injective a b small few places

-- ---- answers

reason_injective : (size : Extent) (a b : Line) → size.rows ≤ 11 → cell_of a ≡ cell_of b → ReasonFits size a → ReasonFits size b
    → reason_words a ≡ reason_words b → a ≡ b
reason_injective size (Child a k) (Child b j) few cells fits_a fits_b e =
    let numbers : decimal k ≡ decimal j = cc in
    let same_child : k ≡ j = number_injective k j fits_a fits_b numbers in
    cc
reason_injective size (Under a c ByDead) (Under b d ByDead) few cells on_a on_b e =
    let words : cell_word c ≡ cell_word d = cc in
    let same_better : c ≡ d = cell_injective size c d few on_a on_b words in
    cc
reason_injective size (Under a c (ByPair p)) (Under b d (ByPair q)) few cells fits_a fits_b e =
    let words : cell_word c ≡ cell_word d = cc in
    let partners : cell_word p ≡ cell_word q = cc in
    let same_better : c ≡ d = cell_injective size c d few fits_a.0 fits_b.0 words in
    let same_partner : p ≡ q = cell_injective size p q few fits_a.1 fits_b.1 partners in
    cc
reason_injective size (Child a k) (Under b d ByDead) few cells fits_a fits_b e =
    let letters : first_letter (reason_words (Child a k)) ≡ first_letter (reason_words (Under b d ByDead)) = ap first_letter e in
    absurd (omega (arith, letters))
reason_injective size (Child a k) (Under b d (ByPair q)) few cells fits_a fits_b e =
    let letters : first_letter (reason_words (Child a k)) ≡ first_letter (reason_words (Under b d (ByPair q))) = ap first_letter e in
    absurd (omega (arith, letters))
reason_injective size (Under a c ByDead) (Child b j) few cells fits_a fits_b e =
    let letters : first_letter (reason_words (Under a c ByDead)) ≡ first_letter (reason_words (Child b j)) = ap first_letter e in
    absurd (omega (arith, letters))
reason_injective size (Under a c ByDead) (Under b d (ByPair q)) few cells fits_a fits_b e =
    let letters : first_letter (reason_words (Under a c ByDead)) ≡ first_letter (reason_words (Under b d (ByPair q))) = ap first_letter e in
    absurd (omega (arith, letters))
reason_injective size (Under a c (ByPair p)) (Child b j) few cells fits_a fits_b e =
    let letters : first_letter (reason_words (Under a c (ByPair p))) ≡ first_letter (reason_words (Child b j)) = ap first_letter e in
    absurd (omega (arith, letters))
reason_injective size (Under a c (ByPair p)) (Under b d ByDead) few cells fits_a fits_b e =
    let letters : first_letter (reason_words (Under a c (ByPair p))) ≡ first_letter (reason_words (Under b d ByDead)) = ap first_letter e in
    absurd (omega (arith, letters))

pub answer_injective : (size : Extent) (a b : Line) → IsExtent size.rows size.cols → AnswerFits size a → AnswerFits size b
    → answer_line a ≡ answer_line b → a ≡ b
answer_injective size a b extent fits_a fits_b e =
    let words : answer_words a ≡ answer_words b =
    spaced_injective (answer_words a) (answer_words b) (IsLine-answer_words size a extent.1 fits_a)
    (IsLine-answer_words size b extent.1 fits_b) e in
    let cells : cell_word (cell_of a) ≡ cell_word (cell_of b) = cc in
    let reasons : reason_words a ≡ reason_words b = cc in
    reason_injective size a b extent.1
    (cell_injective size (cell_of a) (cell_of b) extent.1 fits_a.0 fits_b.0 cells) fits_a.1 fits_b.1 reasons

-- ---- fill steps

fill_words_injective : (size : Extent) (a b : FillStep) → size.rows ≤ 11 → FillFits size a → FillFits size b → fill_words a ≡ fill_words b
    → a ≡ b
fill_words_injective size (Other a) (Other b) few on_a on_b e =
    let words : cell_word a ≡ cell_word b = cc in
    ap (λ (cell : ℕ). Other cell) (cell_injective size a b few on_a on_b words)
fill_words_injective size (Dead a) (Dead b) few on_a on_b e =
    let words : cell_word a ≡ cell_word b = cc in
    ap (λ (cell : ℕ). Dead cell) (cell_injective size a b few on_a on_b words)
fill_words_injective size (Pair a c) (Pair b d) few fits_a fits_b e =
    let firsts : cell_word a ≡ cell_word b = cc in
    let seconds : cell_word c ≡ cell_word d = cc in
    let first : a ≡ b = cell_injective size a b few fits_a.0 fits_b.0 firsts in
    let second : c ≡ d = cell_injective size c d few fits_a.1 fits_b.1 seconds in
    cc
fill_words_injective size a b few fits_a fits_b e =
    let letters : first_letter (fill_words a) ≡ first_letter (fill_words b) = ap first_letter e in
    absurd (omega (arith, letters))

pub fill_injective : (size : Extent) (a b : FillStep) → IsExtent size.rows size.cols → FillFits size a → FillFits size b
    → fill_line a ≡ fill_line b → a ≡ b
fill_injective size a b extent fits_a fits_b e =
    fill_words_injective size a b extent.1 fits_a fits_b
    (spaced_injective (fill_words a) (fill_words b) (IsLine-fill_words size a extent.1 fits_a) (IsLine-fill_words size b extent.1 fits_b) e)

-- ---- entries of the same kind

pub entry_injective : (size : Extent) (a b : Entry) → IsExtent size.rows size.cols → EntryFits size a → EntryFits size b
    → kind_of a ≡ kind_of b → entry_line a ≡ entry_line b → a ≡ b
entry_injective size (Step_entry a) (Step_entry b) extent fits_a fits_b kinds e =
    ap (λ (step : Step). Step_entry step) (step_injective size a b extent fits_a fits_b e)
entry_injective size (Threat_entry a) (Threat_entry b) extent fits_a fits_b kinds e =
    ap (λ (place : ℕ). Threat_entry place) (threat_injective a b fits_a fits_b e)
entry_injective size (Answer_entry a) (Answer_entry b) extent fits_a fits_b kinds e =
    ap (λ (line : Line). Answer_entry line) (answer_injective size a b extent fits_a fits_b e)
entry_injective size (Fill_entry a) (Fill_entry b) extent fits_a fits_b kinds e =
    ap (λ (fill : FillStep). Fill_entry fill) (fill_injective size a b extent fits_a fits_b e)
entry_injective size a b extent fits_a fits_b kinds e = cc
