-- The entries of a node, which are its lines after the first: its steps, then its threats, then its answers; or its
-- fill steps.
--
-- One law serves the four kinds of entries. A fifth would need a case more of `Entry` and a list more in the reader.
use Rattle.std.specs.Prelude.{ℕ, ◌+◌, List, [], ◌∷◌, ◌++◌, length, map, codes}
use Rattle.std.specs.Fmt.{decimal}
use Rattle.hx_board.specs.Cells.{Extent, OnBoard}
use Rattle.hx_inferior.specs.declared.fills.FillStep.{FillStep}
use Rattle.hx_inferior.specs.declared.dominations.Kill.TheVariants.{ByDead, ByPair}
use Rattle.hx_link.specs.declared.steps.Step.{Step}
use Rattle.hx_tree.specs.declared.nodes.Rule.{Rule}
use Rattle.hx_tree.specs.declared.nodes.Rule.TheVariants.{Chain, Links, Move, All, Fill, Turned}
use Rattle.hx_tree.specs.declared.nodes.Line.{Line}
use Rattle.hx_tree.specs.declared.nodes.Line.TheVariants.{Child, Under}
use Rattle.hx_tree.specs.Answers.{cell_of}
use Rattle.hx_text.specs.declared.entries.Entry.{Entry}
use Rattle.hx_text.specs.declared.entries.Entry.TheVariants.{Step as Step_entry, Threat as Threat_entry}
use Rattle.hx_text.specs.declared.entries.Entry.TheVariants.{Answer as Answer_entry, Fill as Fill_entry}
use Rattle.hx_text.specs.declared.entries.EntryKind.{EntryKind}
use Rattle.hx_text.specs.declared.entries.EntryKind.TheVariants.{Step as Step_kind, Threat as Threat_kind}
use Rattle.hx_text.specs.declared.entries.EntryKind.TheVariants.{Answer as Answer_kind, Fill as Fill_kind}
use Rattle.hx_text.specs.declared.heads.Opening.{Opening}
use Rattle.hx_text.specs.declared.heads.Opening.TheVariants.{Chain as Chain_opening, Links as Links_opening}
use Rattle.hx_text.specs.declared.heads.Opening.TheVariants.{Move as Move_opening, All as All_opening}
use Rattle.hx_text.specs.declared.heads.Opening.TheVariants.{Fill as Fill_opening, Turned as Turned_opening}
use Rattle.hx_lex.specs.Words.{spaced, cell_word, IsNumber}
use Rattle.hx_text.specs.StepTexts.{step_line, threat_line, StepFits}
use Rattle.hx_text.specs.FillTexts.{fill_line, FillFits}

-- the words of an answer after its cell: why the winner wins after the opponent's move to it
abbrev pub reason_words : Line → List (List ℕ)
reason_words (Child cell child) = codes "child" ∷ decimal child ∷ []
reason_words (Under cell better ByDead) = codes "dead" ∷ cell_word better ∷ []
reason_words (Under cell better (ByPair partner)) = codes "pair" ∷ cell_word better ∷ cell_word partner ∷ []

-- the line of an answer to a move of the opponent
abbrev pub answer_words : Line → List (List ℕ)
answer_words line = codes "line" ∷ cell_word (cell_of line) ∷ reason_words line

abbrev pub answer_line : Line → List ℕ
answer_line line = spaced (answer_words line)

-- the child is a number, and each cell after the first is on the board
abbrev pub ReasonFits : Extent → Line → Type 0
ReasonFits size (Child cell child) = IsNumber child
ReasonFits size (Under cell better ByDead) = OnBoard size better
ReasonFits size (Under cell better (ByPair partner)) = OnBoard size better × OnBoard size partner

-- an answer whose cells are on a board of this size; it need not be right
abbrev pub AnswerFits : Extent → Line → Type 0
AnswerFits size line = OnBoard size (cell_of line) × ReasonFits size line

abbrev pub entry_line : Entry → List ℕ
entry_line (Step_entry step) = step_line step
entry_line (Threat_entry place) = threat_line place
entry_line (Answer_entry line) = answer_line line
entry_line (Fill_entry fill) = fill_line fill

abbrev pub EntryFits : Extent → Entry → Type 0
EntryFits size (Step_entry step) = StepFits size step
EntryFits size (Threat_entry place) = IsNumber place
EntryFits size (Answer_entry line) = AnswerFits size line
EntryFits size (Fill_entry fill) = FillFits size fill

abbrev pub EachEntryFits : Extent → List Entry → Type 0
EachEntryFits size [] = Unit {0}
EachEntryFits size (entry ∷ entries) = EntryFits size entry × EachEntryFits size entries

-- the entries for these steps, threats, answers and fill steps
abbrev pub entries_for : List Step → List ℕ → List Line → List FillStep → List Entry
entries_for steps threats lines fills =
    map (λ (step : Step). Step_entry step) steps ++ map (λ (place : ℕ). Threat_entry place) threats
    ++ map (λ (line : Line). Answer_entry line) lines ++ map (λ (fill : FillStep). Fill_entry fill) fills

abbrev pub entries_of : Rule → List Entry
entries_of Chain = []
entries_of (Links steps) = entries_for steps [] [] []
entries_of (Move cell child) = []
entries_of (All steps threats lines) = entries_for steps threats lines []
entries_of (Fill fills child) = entries_for [] [] [] fills
entries_of (Turned child) = []

-- what a node's first line tells of its rule
abbrev pub opening_of : Rule → Opening
opening_of Chain = Chain_opening
opening_of (Links steps) = Links_opening (length steps)
opening_of (Move cell child) = Move_opening cell child
opening_of (All steps threats lines) = All_opening (length steps) (length threats) (length lines)
opening_of (Fill fills child) = Fill_opening (length fills) child
opening_of (Turned child) = Turned_opening child

-- how many steps, threats, answers and fill steps a first line tells
abbrev pub steps_told : Opening → ℕ
steps_told Chain_opening = 0
steps_told (Links_opening steps) = steps
steps_told (Move_opening cell child) = 0
steps_told (All_opening steps threats lines) = steps
steps_told (Fill_opening fills child) = 0
steps_told (Turned_opening child) = 0

abbrev pub threats_told : Opening → ℕ
threats_told Chain_opening = 0
threats_told (Links_opening steps) = 0
threats_told (Move_opening cell child) = 0
threats_told (All_opening steps threats lines) = threats
threats_told (Fill_opening fills child) = 0
threats_told (Turned_opening child) = 0

abbrev pub answers_told : Opening → ℕ
answers_told Chain_opening = 0
answers_told (Links_opening steps) = 0
answers_told (Move_opening cell child) = 0
answers_told (All_opening steps threats lines) = lines
answers_told (Fill_opening fills child) = 0
answers_told (Turned_opening child) = 0

abbrev pub fills_told : Opening → ℕ
fills_told Chain_opening = 0
fills_told (Links_opening steps) = 0
fills_told (Move_opening cell child) = 0
fills_told (All_opening steps threats lines) = 0
fills_told (Fill_opening fills child) = fills
fills_told (Turned_opening child) = 0

-- how many entries it tells
abbrev pub entries_told : Opening → ℕ
entries_told opening = steps_told opening + threats_told opening + answers_told opening + fills_told opening

abbrev pub kind_of : Entry → EntryKind
kind_of (Step_entry step) = Step_kind
kind_of (Threat_entry place) = Threat_kind
kind_of (Answer_entry line) = Answer_kind
kind_of (Fill_entry fill) = Fill_kind
