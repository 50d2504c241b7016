-- What is read of a node's first line and of an entry before the whole line is.
use Rattle.std.specs.Prelude.{◌≡◌, ℕ, ◌+◌, nat_lt, if◌then◌else◌, List}
use Rattle.hx_board.specs.Cells.{Extent}
use Rattle.hx_inferior.specs.declared.fills.FillStep.{FillStep}
use Rattle.hx_link.specs.declared.steps.Step.{Step}
use Rattle.hx_tree.specs.declared.nodes.Rule.{Rule}
use Rattle.hx_tree.specs.declared.nodes.Rule.TheVariants.{Chain, Links, Move, All, Fill, Turned}
use Rattle.hx_tree.specs.declared.nodes.Line.{Line}
use Rattle.hx_tree.specs.Answers.{cell_of}
use Rattle.hx_text.specs.declared.entries.Entry.{Entry}
use Rattle.hx_text.specs.declared.entries.EntryKind.{EntryKind}
use Rattle.hx_text.specs.declared.entries.EntryKind.TheVariants.{Step as Step_kind, Threat as Threat_kind}
use Rattle.hx_text.specs.declared.entries.EntryKind.TheVariants.{Answer as Answer_kind, Fill as Fill_kind}
use Rattle.hx_text.specs.declared.heads.Opening.{Opening}
use Rattle.hx_text.specs.declared.heads.Opening.TheVariants.{Chain as Chain_opening, Links as Links_opening}
use Rattle.hx_text.specs.declared.heads.Opening.TheVariants.{Move as Move_opening, All as All_opening}
use Rattle.hx_text.specs.declared.heads.Opening.TheVariants.{Fill as Fill_opening, Turned as Turned_opening}
use Rattle.hx_text.specs.declared.versions.Preamble.{Preamble}
use Rattle.hx_text.specs.Entries.{ReasonFits, EntryFits, kind_of, steps_told, threats_told, answers_told}
use Rattle.hx_text.specs.TreeTexts.{OpeningFits}

-- the opening of a rule that each version has
abbrev pub IsUnturned : Opening → Type 0
IsUnturned Chain_opening = Unit {0}
IsUnturned (Links_opening steps) = Unit {0}
IsUnturned (Move_opening cell child) = Unit {0}
IsUnturned (All_opening steps threats lines) = Unit {0}
IsUnturned (Fill_opening fills child) = Unit {0}
IsUnturned (Turned_opening child) = ⊥

abbrev pub UnturnedFits : Preamble → Opening → Type 0
UnturnedFits preamble opening = OpeningFits preamble opening × IsUnturned opening

-- an answer at this cell, with a reason that fits
abbrev pub AnswersAt : Extent → ℕ → Line → Type 0
AnswersAt size cell line = (cell_of line ≡ cell) × ReasonFits size line

-- an entry of this kind on a board of this size
abbrev pub IsEntryLine : Extent → EntryKind → Entry → Type 0
IsEntryLine size kind entry = EntryFits size entry × (kind_of entry ≡ kind)

-- the kind of the entry at a place, counted from 0, where so many steps come first, then so many threats, then so many
-- answers
abbrev pub kind_at : Opening → ℕ → EntryKind
kind_at opening place =
    if nat_lt place (steps_told opening) then Step_kind else
    if nat_lt place (steps_told opening + threats_told opening) then Threat_kind else
    if nat_lt place (steps_told opening + threats_told opening + answers_told opening) then Answer_kind else Fill_kind

-- a rule with such an opening and these lists
abbrev pub rule_for : Opening → List Step → List ℕ → List Line → List FillStep → Rule
rule_for Chain_opening steps threats lines fills = Chain
rule_for (Links_opening told) steps threats lines fills = Links steps
rule_for (Move_opening cell child) steps threats lines fills = Move cell child
rule_for (All_opening told told_threats told_lines) steps threats lines fills = All steps threats lines
rule_for (Fill_opening told child) steps threats lines fills = Fill fills child
rule_for (Turned_opening child) steps threats lines fills = Turned child
