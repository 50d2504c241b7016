-- The lines of a node are the line of its head, and those of its entries; and it fits exactly where these fit.
use Rattle.std.proofs.Common.{◌≡◌, ℕ, List, [], ◌∷◌, ◌++◌, map, refl, sym, ap, ◌∙◌, codes}
use Rattle.std.specs.List.{All as EachItem}
use Rattle.std.proofs.lemmas.List.{append-nil, map-append}
use Rattle.std.proofs.lemmas.List.Elements.{All-head, All-tail, All-nil, All-cons}
use Rattle.hx_board.specs.Cells.{Extent}
use Rattle.hx_link.specs.declared.steps.Step.{Step}
use Rattle.hx_tree.specs.declared.nodes.Line.{Line}
use Rattle.hx_tree.specs.declared.nodes.Rule.{Rule}
use Rattle.hx_tree.specs.declared.nodes.Rule.TheVariants.{Chain, Links, Move, All, Fill, Turned}
use Rattle.hx_tree.specs.declared.nodes.Node.{Node}
use Rattle.hx_text.specs.declared.entries.Entry.{Entry}
use Rattle.hx_text.specs.declared.versions.Preamble.{Preamble}
use Rattle.hx_lex.specs.Words.{IsNumber, spaced, mask_word, colour_word}
use Rattle.hx_text.specs.StepTexts.{step_words, threat_words, StepFits}
use Rattle.hx_text.specs.FillTexts.{fill_words, FillFits}
use Rattle.hx_text.specs.Entries.{answer_words, AnswerFits, entry_line, EntryFits, EachEntryFits, entries_for, entries_of, opening_of}
use Rattle.hx_text.specs.TreeTexts.{rule_words, first_line, list_words, node_lines, RuleFits, NodeFits}
use Rattle.hx_text.specs.TreeTexts.{opening_words, head_of, head_line, OpeningFits, HeadFits}
use Rattle.hx_text.proofs.EntryLists.{step_entry, threat_entry, answer_entry, fill_entry, of_steps, of_threats, of_answers}
use Rattle.hx_text.proofs.EntryLists.{EachEntryFits-entries_for}

-- ---- the lines

words_of_rule : (rule : Rule) → rule_words rule ≡ opening_words (opening_of rule)
words_of_rule Chain = refl
words_of_rule (Links steps) = refl
words_of_rule (Move cell child) = refl
words_of_rule (All steps threats lines) = refl
words_of_rule (Fill fills child) = refl
words_of_rule (Turned child) = refl

pub first_line-head : (node : Node) → first_line node ≡ head_line (head_of node)
first_line-head node =
    ap (λ (words : List (List ℕ)).
    spaced (codes "node" ∷ mask_word node.heading.position.black ∷ mask_word node.heading.position.white
    ∷ colour_word node.heading.to_move ∷ colour_word node.heading.winner ∷ words)) (words_of_rule node.rule)

-- the lines of entries that are made of these
lines_for : {X : Type 0} (entry_for : X → Entry) (words_for : X → List (List ℕ)) (xs : List X)
    → ((x : X) → entry_line (entry_for x) ≡ spaced (words_for x)) → map entry_line (map entry_for xs) ≡ map spaced (map words_for xs)
lines_for entry_for words_for [] told = refl
lines_for entry_for words_for (x ∷ xs) told =
    let first : entry_line (entry_for x) ≡ spaced (words_for x) = told x in
    let rest : map entry_line (map entry_for xs) ≡ map spaced (map words_for xs) = lines_for entry_for words_for xs told in
    cc

lines_of_entries : (steps : List Step) (threats : List ℕ) (lines : List Line)
    → map spaced (map step_words steps ++ map threat_words threats ++ map answer_words lines)
    ≡ map entry_line (entries_for steps threats lines [])
lines_of_entries steps threats lines =
    let s : List (List (List ℕ)) = map step_words steps in
    let t : List (List (List ℕ)) = map threat_words threats in
    let l : List (List (List ℕ)) = map answer_words lines in
    let a : map entry_line (of_steps steps) ≡ map spaced s = lines_for step_entry step_words steps (λ x. refl) in
    let b : map entry_line (of_threats threats) ≡ map spaced t = lines_for threat_entry threat_words threats (λ x. refl) in
    let c : map entry_line (of_answers lines) ≡ map spaced l = lines_for answer_entry answer_words lines (λ x. refl) in
    let each : map entry_line (of_steps steps) ++ map entry_line (of_threats threats) ++ map entry_line (of_answers lines)
    ≡ map spaced s ++ map spaced t ++ map spaced l = rw (a, b, c) refl in
    sym (ap (λ (es : List Entry). map entry_line es) (append-nil (of_steps steps ++ of_threats threats ++ of_answers lines))
    ∙ map-append entry_line (of_steps steps ++ of_threats threats) (of_answers lines)
    ∙ ap (λ (ls : List (List ℕ)). ls ++ map entry_line (of_answers lines)) (map-append entry_line (of_steps steps) (of_threats threats))
    ∙ each ∙ ap (λ (ls : List (List ℕ)). ls ++ map spaced l) (sym (map-append spaced s t)) ∙ sym (map-append spaced (s ++ t) l))

lines_of_rule : (rule : Rule) → map spaced (list_words rule) ≡ map entry_line (entries_of rule)
lines_of_rule Chain = refl
lines_of_rule (Links steps) =
    ap (λ (words : List (List (List ℕ))). map spaced words)
    (sym (append-nil (map step_words steps)) ∙ sym (append-nil (map step_words steps ++ []))) ∙ lines_of_entries steps [] []
lines_of_rule (Move cell child) = refl
lines_of_rule (All steps threats lines) = lines_of_entries steps threats lines
lines_of_rule (Fill fills child) = sym (lines_for fill_entry fill_words fills (λ x. refl))
lines_of_rule (Turned child) = refl

pub node_lines-parts : (node : Node) → node_lines node ≡ head_line (head_of node) ∷ map entry_line (entries_of node.rule)
node_lines-parts node =
    let first : first_line node ≡ head_line (head_of node) = first_line-head node in
    let rest : map spaced (list_words node.rule) ≡ map entry_line (entries_of node.rule) = lines_of_rule node.rule in
    cc

-- ---- what fits

entries_fit_for : {X : Type 0} (size : Extent) (entry_for : X → Entry) (Fits : X → Type 0) (xs : List X)
    → ((x : X) → Fits x → EntryFits size (entry_for x)) → EachItem Fits xs → EachEntryFits size (map entry_for xs)
entries_fit_for size entry_for Fits [] told each = tt
entries_fit_for size entry_for Fits (x ∷ xs) told each =
    (told x (All-head Fits x xs each), entries_fit_for size entry_for Fits xs told (All-tail Fits x xs each))

all_fit_for : {X : Type 0} (size : Extent) (entry_for : X → Entry) (Fits : X → Type 0) (xs : List X)
    → ((x : X) → EntryFits size (entry_for x) → Fits x) → EachEntryFits size (map entry_for xs) → EachItem Fits xs
all_fit_for size entry_for Fits [] told each = All-nil Fits
all_fit_for size entry_for Fits (x ∷ xs) told each =
    All-cons Fits x xs (told x each.0) (all_fit_for size entry_for Fits xs told each.1)

front_fits : (size : Extent) (a b : List Entry) → EachEntryFits size (a ++ b) → EachEntryFits size a
front_fits size [] b each = tt
front_fits size (entry ∷ a) b each = (each.0, front_fits size a b each.1)

back_fits : (size : Extent) (a b : List Entry) → EachEntryFits size (a ++ b) → EachEntryFits size b
back_fits size [] b each = each
back_fits size (entry ∷ a) b each = back_fits size a b each.1

opening_fits : (preamble : Preamble) (rule : Rule) → RuleFits preamble rule → OpeningFits preamble (opening_of rule)
opening_fits preamble Chain fits = tt
opening_fits preamble (Links steps) fits = fits.0
opening_fits preamble (Move cell child) fits = fits
opening_fits preamble (All steps threats lines) fits = (fits.0, fits.1, fits.2)
opening_fits preamble (Fill fills child) fits = (fits.0, fits.1)
opening_fits preamble (Turned child) fits = fits

entries_fit_of : (preamble : Preamble) (rule : Rule) → RuleFits preamble rule → EachEntryFits preamble.size (entries_of rule)
entries_fit_of preamble Chain fits = tt
entries_fit_of preamble (Links steps) fits =
    EachEntryFits-entries_for preamble.size steps [] [] []
    (entries_fit_for preamble.size step_entry (StepFits preamble.size) steps (λ x is. is) fits.1) tt tt tt
entries_fit_of preamble (Move cell child) fits = tt
entries_fit_of preamble (All steps threats lines) fits =
    EachEntryFits-entries_for preamble.size steps threats lines []
    (entries_fit_for preamble.size step_entry (StepFits preamble.size) steps (λ x is. is) fits.3)
    (entries_fit_for preamble.size threat_entry IsNumber threats (λ x is. is) fits.4)
    (entries_fit_for preamble.size answer_entry (AnswerFits preamble.size) lines (λ x is. is) fits.5) tt
entries_fit_of preamble (Fill fills child) fits =
    EachEntryFits-entries_for preamble.size [] [] [] fills tt tt tt
    (entries_fit_for preamble.size fill_entry (FillFits preamble.size) fills (λ x is. is) fits.2)
entries_fit_of preamble (Turned child) fits = tt

rule_fits : (preamble : Preamble) (rule : Rule) → OpeningFits preamble (opening_of rule) → EachEntryFits preamble.size (entries_of rule)
    → RuleFits preamble rule
rule_fits preamble Chain opening each = tt
rule_fits preamble (Links steps) opening each = (
  opening,
  all_fit_for preamble.size step_entry (StepFits preamble.size) steps (λ x is. is)
      (front_fits preamble.size (of_steps steps) [] (front_fits preamble.size (of_steps steps ++ []) []
      (front_fits preamble.size ((of_steps steps ++ []) ++ []) [] each))),
)
rule_fits preamble (Move cell child) opening each = opening
rule_fits preamble (All steps threats lines) opening each =
    let three = front_fits preamble.size (of_steps steps ++ of_threats threats ++ of_answers lines) [] each in
    let two = front_fits preamble.size (of_steps steps ++ of_threats threats) (of_answers lines) three in (
      opening.0,
      opening.1,
      opening.2,
      all_fit_for preamble.size step_entry (StepFits preamble.size) steps (λ x is. is)
          (front_fits preamble.size (of_steps steps) (of_threats threats) two),
      all_fit_for preamble.size threat_entry IsNumber threats (λ x is. is)
          (back_fits preamble.size (of_steps steps) (of_threats threats) two),
      all_fit_for preamble.size answer_entry (AnswerFits preamble.size) lines (λ x is. is)
          (back_fits preamble.size (of_steps steps ++ of_threats threats) (of_answers lines) three),
    )
rule_fits preamble (Fill fills child) opening each = (
  opening.0,
  opening.1,
  all_fit_for preamble.size fill_entry (FillFits preamble.size) fills (λ x is. is) each,
)
rule_fits preamble (Turned child) opening each = opening

pub head_fits : {preamble : Preamble} (node : Node) → NodeFits preamble node → HeadFits preamble (head_of node)
head_fits {preamble} node fits = record {
  heading = record { size_is = fits.size_is; board = fits.board };
  opening = opening_fits preamble node.rule fits.rule;
}

pub entries_fit : {preamble : Preamble} (node : Node) → NodeFits preamble node → EachEntryFits preamble.size (entries_of node.rule)
entries_fit {preamble} node fits = entries_fit_of preamble node.rule fits.rule

pub node_fits : {preamble : Preamble} (node : Node) → HeadFits preamble (head_of node)
    → EachEntryFits preamble.size (entries_of node.rule) → NodeFits preamble node
node_fits {preamble} node head entries = record {
  size_is = head.heading.size_is;
  board = head.heading.board;
  rule = rule_fits preamble node.rule head.opening entries;
}
