-- The entries of a node: its steps, then its threats, then its answers; or its fill steps.
use Rattle.std.proofs.Common.{◌≡◌, ℕ, ◌+◌, List, [], ◌∷◌, ◌++◌, length, map, refl, ◌∙◌, arith, append_assoc, length-append}
use Rattle.std.proofs.lemmas.List.{length-map}
use Rattle.hx_board.specs.Cells.{Extent}
use Rattle.hx_inferior.specs.declared.fills.FillStep.{FillStep}
use Rattle.hx_link.specs.declared.steps.Step.{Step}
use Rattle.hx_tree.specs.declared.nodes.Line.{Line}
use Rattle.hx_tree.specs.declared.nodes.Rule.{Rule}
use Rattle.hx_tree.specs.declared.nodes.Rule.TheVariants.{Chain, Links, Move, All, Fill, Turned}
use Rattle.hx_text.specs.declared.entries.Entry.{Entry}
use Rattle.hx_text.specs.declared.entries.Entry.TheVariants.{Step as Step_entry, Threat as Threat_entry, Answer as Answer_entry}
use Rattle.hx_text.specs.declared.entries.Entry.TheVariants.{Fill as Fill_entry}
use Rattle.hx_text.specs.Entries.{EachEntryFits, entries_for, entries_of, opening_of, entries_told}

abbrev pub step_entry : Step → Entry
step_entry step = Step_entry step

abbrev pub threat_entry : ℕ → Entry
threat_entry place = Threat_entry place

abbrev pub answer_entry : Line → Entry
answer_entry line = Answer_entry line

abbrev pub fill_entry : FillStep → Entry
fill_entry fill = Fill_entry fill

abbrev pub of_steps : List Step → List Entry
of_steps steps = map step_entry steps

abbrev pub of_threats : List ℕ → List Entry
of_threats threats = map threat_entry threats

abbrev pub of_answers : List Line → List Entry
of_answers lines = map answer_entry lines

abbrev pub of_fills : List FillStep → List Entry
of_fills fills = map fill_entry fills

pub entries_for-parts : (steps : List Step) (threats : List ℕ) (lines : List Line) (fills : List FillStep)
    → entries_for steps threats lines fills ≡ of_steps steps ++ (of_threats threats ++ (of_answers lines ++ of_fills fills))
entries_for-parts steps threats lines fills =
    append_assoc (of_steps steps ++ of_threats threats) (of_answers lines) (of_fills fills)
    ∙ append_assoc (of_steps steps) (of_threats threats) (of_answers lines ++ of_fills fills)

pub EachEntryFits-append : (size : Extent) (a b : List Entry) → EachEntryFits size a → EachEntryFits size b → EachEntryFits size (a ++ b)
EachEntryFits-append size [] b each_a each_b = each_b
EachEntryFits-append size (entry ∷ a) b each_a each_b = (each_a.0, EachEntryFits-append size a b each_a.1 each_b)

-- the entries fit where those of each kind do
pub EachEntryFits-entries_for : (size : Extent) (steps : List Step) (threats : List ℕ) (lines : List Line) (fills : List FillStep)
    → EachEntryFits size (of_steps steps) → EachEntryFits size (of_threats threats) → EachEntryFits size (of_answers lines)
    → EachEntryFits size (of_fills fills) → EachEntryFits size (entries_for steps threats lines fills)
EachEntryFits-entries_for size steps threats lines fills each_step each_threat each_line each_fill =
    EachEntryFits-append size (of_steps steps ++ of_threats threats ++ of_answers lines) (of_fills fills)
    (EachEntryFits-append size (of_steps steps ++ of_threats threats) (of_answers lines)
    (EachEntryFits-append size (of_steps steps) (of_threats threats) each_step each_threat) each_line) each_fill

pub length-entries_for : (steps : List Step) (threats : List ℕ) (lines : List Line) (fills : List FillStep)
    → length (entries_for steps threats lines fills) ≡ length steps + length threats + length lines + length fills
length-entries_for steps threats lines fills =
    omega (
      arith,
      length-append (of_steps steps ++ of_threats threats ++ of_answers lines) (of_fills fills),
      length-append (of_steps steps ++ of_threats threats) (of_answers lines),
      length-append (of_steps steps) (of_threats threats),
      length-map steps step_entry,
      length-map threats threat_entry,
      length-map lines answer_entry,
      length-map fills fill_entry,
    )

pub length-entries_of : (rule : Rule) → length (entries_of rule) ≡ entries_told (opening_of rule)
length-entries_of Chain = refl
length-entries_of (Links steps) = length-entries_for steps [] [] []
length-entries_of (Move cell child) = refl
length-entries_of (All steps threats lines) = length-entries_for steps threats lines []
length-entries_of (Fill fills child) = length-entries_for [] [] [] fills
length-entries_of (Turned child) = refl
