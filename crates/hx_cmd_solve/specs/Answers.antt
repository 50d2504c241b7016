-- What `solve` answers, and when.
use Rattle.std.specs.Prelude.{◌≡◌, ◌↔◌, ℕ, ◌<◌, ◌≤◌, List, length, flat_map, codes, Option, IfSome, Bool, true}
use Rattle.std.specs.List.{All}
use Rattle.hx_io.specs.Sources.{Reading, SomeReadFailed}
use Rattle.hx_io.specs.Sinks.{Writing}
use Rattle.hx_board.specs.declared.colours.Colour.{Colour}
use Rattle.hx_board.specs.Positions.{Board}
use Rattle.hx_board.specs.Graph.{HasNoChain}
use Rattle.hx_board.specs.Counts.{IsSmall}
use Rattle.hx_lines.specs.Lines.{longest}
use Rattle.hx_tree.specs.declared.nodes.Node.{Node}
use Rattle.hx_tree.specs.Plain.{ArePlain}
use Rattle.hx_text.specs.declared.versions.Version.{Version}
use Rattle.hx_text.specs.declared.versions.Version.TheVariants.{Two}
use Rattle.hx_text.specs.declared.versions.Preamble.{Preamble}
use Rattle.hx_text.specs.Versions.{HasTurned}
use Rattle.hx_text.specs.Grammars.{text_of, IsFaultyLine}
use Rattle.hx_text.specs.PositionTexts.{ArePositionLines}
use Rattle.hx_text.specs.TreeTexts.{NodeFits, ListsFit, node_lines, written_tree}
use Rattle.hx_text.specs.Lengths.{most_nodes}
use Rattle.hx_limits.specs.declared.settings.Settings.{Settings}
use Rattle.hx_solve.specs.Solutions.{IsSolution}
use Rattle.hx_limits.specs.Tallies.{Tallied}
use Rattle.hx_answers.specs.Texts.{counted_text, read_fault_line, too_long_line}
use Rattle.hx_answers.specs.Endings.{IsWritten, IsReadToEnd}
use Rattle.hx_cmd_solve.specs.declared.answers.Answer.{Answer}
use Rattle.hx_cmd_solve.specs.declared.answers.Answer.TheVariants.{Solved, LeftOpen, BadPosition, ReadFault, TooLong}
use Rattle.hx_finish.specs.declared.finishes.Finish.{Finish}
use Rattle.hx_finish.specs.declared.wanting.Wanting.TheVariants.{UnknownBudget, UnknownProofs, OutOfMemory}
use Rattle.hx_finish.specs.Wants.{wanting_text, wanting_status, wanting_tally, no_refusal}
use Rattle.hx_cmd_solve.specs.declared.solutions.Solution.{Solution}
use Rattle.hx_cmd_solve.specs.Positions.{IsPositionText, IsTextWhere}

-- what the lines before the nodes say in the text of a solution's tree
abbrev pub preamble_of : Solution → Preamble
preamble_of solution = record { version = solution.version; size = solution.size }

-- the text of a solution's tree
abbrev pub solution_text : Solution → List ℕ
solution_text solution = written_tree (preamble_of solution) solution.nodes.items solution.winner

-- what is written for each answer
abbrev pub answer_text : Answer → List ℕ
answer_text (Solved solution) = solution_text solution
answer_text (LeftOpen wanting) = wanting_text wanting
answer_text (BadPosition line) = counted_text (codes "bad position ") line
answer_text ReadFault = read_fault_line
answer_text TooLong = too_long_line

-- the exit status that tells each answer, where it was written whole
abbrev pub status_of : Answer → ℕ
status_of (Solved solution) = 0
status_of (LeftOpen wanting) = wanting_status wanting
status_of (BadPosition line) = 4
status_of ReadFault = 5
status_of TooLong = 8

-- the refusals that stand behind each answer: of a unit, of a slot, or none
abbrev pub tally_of : Settings → Answer → Tallied
tally_of settings (Solved solution) = no_refusal settings
tally_of settings (LeftOpen wanting) = wanting_tally settings wanting
tally_of settings (BadPosition line) = no_refusal settings
tally_of settings ReadFault = no_refusal settings
tally_of settings TooLong = no_refusal settings

-- the second version, exactly where some node is turned
abbrev pub IsVersionOf : Version → List Node → Type 0
IsVersionOf version nodes = (version ≡ Two) ↔ HasTurned nodes

-- the input is the text of a position, and the solution is a tree that solves it, with its root's winner and the
-- version of its text, and of plain nodes where it is to be plain
pub record IsSolved (plain_tree : Bool) (input : List ℕ) (solution : Solution) : Type 0 where
  pub board : Board
  pub mover : Colour
  pub text : IsPositionText input board mover
  pub tree : IsSolution board mover solution.nodes.items
  pub plain : plain_tree ≡ true → ArePlain solution.nodes.items
  pub size : solution.size ≡ board.size
  pub version : IsVersionOf solution.version solution.nodes.items
  pub fits : All (NodeFits (preamble_of solution)) solution.nodes.items
  pub winner : solution.winner ≡ tree.root.heading.winner

-- the input is the text of a position that is not small under the budget, and in which, unless the budget is 0, neither
-- player has a chain
pub record IsLeftOpen (budget : ℕ) (input : List ℕ) : Type 0 where
  pub not_small : IsTextWhere (λ board. ¬ IsSmall board budget) input
  pub no_chain : 0 < budget → IsTextWhere HasNoChain input

-- the whole input, which has no more bytes than are read
abbrev pub WithinLimit : Option (List ℕ) → (List ℕ → Type 0) → Type 0
WithinLimit left says = IfSome left (λ input. (length input ≤ longest) × says input)

-- When each answer comes: what the source had left before, and whether its faults rose.
abbrev pub IsDue : Settings → Bool → Option (List ℕ) → Type 0 → Answer → Type 0
IsDue settings plain_tree before rose (Solved solution) =
    WithinLimit before (λ input. IsSolved plain_tree input solution)
IsDue settings plain_tree before rose (LeftOpen (UnknownBudget budget)) =
    (budget ≡ settings.budget) × WithinLimit before (IsLeftOpen settings.budget)
IsDue settings plain_tree before rose (LeftOpen (UnknownProofs slots)) =
    (slots ≡ settings.slots) × WithinLimit before (IsTextWhere (λ board. ¬ IsSmall board settings.budget))
IsDue settings plain_tree before rose (LeftOpen OutOfMemory) = Unit {0}
IsDue settings plain_tree before rose (BadPosition line) =
    WithinLimit before (λ input. IsFaultyLine ArePositionLines input line)
IsDue settings plain_tree before rose ReadFault = rose
IsDue settings plain_tree before rose TooLong = IfSome before (λ input. longest < length input)

-- A run of `solve`: some answer is due, for a tree the input was read to its end, the answer was written, and the tally
-- has the refusals behind it.
pub record IsSolveRun (settings : Settings) (plain_tree : Bool) (source source_now : Reading)
    (sink sink_now : Writing) (finish : Finish) : Type 0 where
  pub answer : Answer
  pub due : IsDue settings plain_tree source.left (SomeReadFailed source source_now) answer
  pub read_to_end : status_of answer ≡ 0 → IsReadToEnd source.left source_now.left
  pub written : IsWritten sink sink_now (answer_text answer) (status_of answer) finish.status
  pub counted : finish.tally ≡ tally_of settings answer

-- ---- words for the functions inside the crate alone

-- the lines of some nodes
abbrev pub nodes_text : List Node → List ℕ
nodes_text nodes = flat_map (λ node. text_of (node_lines node)) nodes

-- what each answer says of the input
abbrev pub IsFound : Settings → Bool → List ℕ → Answer → Type 0
IsFound settings plain_tree input (Solved solution) = IsSolved plain_tree input solution
IsFound settings plain_tree input (LeftOpen (UnknownBudget budget)) =
    (budget ≡ settings.budget) × IsLeftOpen settings.budget input
IsFound settings plain_tree input (LeftOpen (UnknownProofs slots)) =
    (slots ≡ settings.slots) × IsTextWhere (λ board. ¬ IsSmall board settings.budget) input
IsFound settings plain_tree input (LeftOpen OutOfMemory) = Unit {0}
IsFound settings plain_tree input (BadPosition line) = IsFaultyLine ArePositionLines input line
IsFound settings plain_tree input ReadFault = ⊥
IsFound settings plain_tree input TooLong = ⊥

-- the tree of a solution is within the limits of a text
abbrev pub CanBeWritten : Answer → Type 0
CanBeWritten (Solved solution) =
    (length solution.nodes.items ≤ most_nodes) × All (λ node. ListsFit node.rule) solution.nodes.items
CanBeWritten (LeftOpen wanting) = Unit {0}
CanBeWritten (BadPosition line) = Unit {0}
CanBeWritten ReadFault = Unit {0}
CanBeWritten TooLong = Unit {0}
