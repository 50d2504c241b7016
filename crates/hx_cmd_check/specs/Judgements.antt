-- What is said of an input, and when.
use Rattle.std.specs.Prelude.{◌≡◌, ◌⊎◌, ℕ, List, [], ◌∷◌, ◌++◌, codes, Option, Some, IfSome}
use Rattle.hx_io.specs.Sources.{Reading, SomeReadFailed}
use Rattle.hx_io.specs.Sinks.{Writing}
use Rattle.hx_board.specs.declared.colours.Colour.{Colour}
use Rattle.hx_tree.specs.declared.nodes.Heading.{Heading}
use Rattle.hx_lex.specs.Words.{colour_word}
use Rattle.hx_text.specs.PositionTexts.{position_text}
use Rattle.hx_answers.specs.Texts.{counted_text, read_fault_line, out_of_memory_line, too_long_line}
use Rattle.hx_answers.specs.Endings.{IsWritten}
use Rattle.hx_cmd_check.specs.declared.judgements.Judgement.{Judgement}
use Rattle.hx_cmd_check.specs.declared.judgements.Judgement.TheVariants.{Yes, No}
use Rattle.hx_cmd_check.specs.declared.faults.Fault.{Fault}
use Rattle.hx_cmd_check.specs.declared.faults.Fault.TheVariants.{NoText, NoNode, ReadFault, OutOfMemory, TooLong}
use Rattle.hx_cmd_check.specs.Judging.{Demand, NodesAreRight, IsYes, IsNoText, IsNoNode, IsLongLine, IsTooManyNodes, ReadsNoFault}

-- the winner of the root, and the root's position and mover
abbrev pub yes_text : Heading → List ℕ
yes_text root =
    (codes "yes " ++ (colour_word root.winner ++ 10 ∷ [])) ++ position_text root.position root.to_move

-- the line that names a line at fault
abbrev pub no_text_line : ℕ → List ℕ
no_text_line line = counted_text (codes "no text ") line

-- the line that names a node that is not right
abbrev pub no_node_line : ℕ → List ℕ
no_node_line node = counted_text (codes "no node ") node

-- the line that names a winner
abbrev pub yes_line : Colour → List ℕ
yes_line winner = codes "yes " ++ (colour_word winner ++ 10 ∷ [])

-- what is written for each fault
abbrev pub fault_text : Fault → List ℕ
fault_text (NoText line) = no_text_line line
fault_text (NoNode node) = no_node_line node
fault_text ReadFault = read_fault_line
fault_text OutOfMemory = out_of_memory_line
fault_text TooLong = too_long_line

-- the exit status that tells each fault, where it was written whole
abbrev pub status_of_fault : Fault → ℕ
status_of_fault (NoText line) = 1
status_of_fault (NoNode node) = 1
status_of_fault ReadFault = 5
status_of_fault OutOfMemory = 7
status_of_fault TooLong = 8

-- what is written for each judgement
abbrev pub judgement_text : Judgement → List ℕ
judgement_text (Yes root) = yes_text root
judgement_text (No fault) = fault_text fault

-- the exit status that tells each judgement, where it was written whole
abbrev pub status_of : Judgement → ℕ
status_of (Yes root) = 0
status_of (No fault) = status_of_fault fault

-- the input is above a limit before its first fault: a line has more bytes than a line may have, or there are more
-- nodes than `check` accepts
abbrev pub IsLong : Demand → List ℕ → Type 0
IsLong Meets input = IsLongLine Meets input ⊎ IsTooManyNodes Meets input

-- When each fault comes, where the nodes before it meet the demand: what the source had left before and has left, and
-- whether its faults rose.
abbrev pub IsFaultDue : Demand → Option (List ℕ) → Option (List ℕ) → Type 0 → Fault → Type 0
IsFaultDue Meets before after rose (NoText line) = IfSome before (λ input. IsNoText Meets input line)
IsFaultDue Meets before after rose (NoNode node) = IfSome before (λ input. IsNoNode Meets input node)
IsFaultDue Meets before after rose ReadFault = rose × ReadsNoFault Meets before after
IsFaultDue Meets before after rose OutOfMemory = Unit {0}
IsFaultDue Meets before after rose TooLong = IfSome before (IsLong Meets)

-- when each judgement comes, in the same way
abbrev pub IsDue : Option (List ℕ) → Option (List ℕ) → Type 0 → Judgement → Type 0
IsDue before after rose (Yes root) = IfSome before (λ input. IsYes input root × (after ≡ Some []))
IsDue before after rose (No fault) = IsFaultDue NodesAreRight before after rose fault

-- A run of the command: some judgement is due, and it was written.
pub record IsCheckRun (source source_now : Reading) (sink sink_now : Writing) (status : ℕ) : Type 0 where
  pub judgement : Judgement
  pub due : IsDue source.left source_now.left (SomeReadFailed source source_now) judgement
  pub written : IsWritten sink sink_now (judgement_text judgement) (status_of judgement) status
