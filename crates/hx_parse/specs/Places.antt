-- The places in a tree's text: what each says of the lines and nodes before it, and what one more line does there.
use Rattle.std.specs.Prelude.{◌≡◌, ℕ, ◌+◌, ◌-◌, ◌<◌, ◌≤◌, nat_lt, if◌then◌else◌, List, [], ◌∷◌}
use Rattle.std.specs.Prelude.{◌++◌, length, map, flat_map, All, Bool, IsTrue, vec_capacity}
use Rattle.std.specs.declared.option.Option.{Option}
use Rattle.std.specs.declared.option.Option.TheVariants.{None, Some}
use Rattle.std.specs.declared.result.Result.{Result}
use Rattle.std.specs.declared.result.Result.TheVariants.{Ok, Err}
use Rattle.hx_board.specs.declared.colours.Colour.{Colour}
use Rattle.hx_board.specs.Cells.{IsExtent}
use Rattle.hx_tree.specs.declared.nodes.Node.{Node}
use Rattle.hx_text.specs.declared.heads.Head.{Head}
use Rattle.hx_text.specs.declared.entries.Entry.{Entry}
use Rattle.hx_text.specs.declared.entries.Entry.TheVariants.{Step as Step_entry, Threat as Threat_entry}
use Rattle.hx_text.specs.declared.entries.Entry.TheVariants.{Answer as Answer_entry, Fill as Fill_entry}
use Rattle.hx_text.specs.declared.entries.EntryKind.{EntryKind}
use Rattle.hx_text.specs.declared.entries.EntryKind.TheVariants.{Step as Step_kind, Threat as Threat_kind}
use Rattle.hx_text.specs.declared.entries.EntryKind.TheVariants.{Answer as Answer_kind, Fill as Fill_kind}
use Rattle.hx_parse.specs.declared.begun_nodes.Begun.{Begun}
use Rattle.hx_text.specs.declared.versions.Version.{Version}
use Rattle.hx_text.specs.declared.versions.Preamble.{Preamble}
use Rattle.hx_parse.specs.declared.so_far.SoFar.{SoFar}
use Rattle.hx_parse.specs.declared.places.Fed.{Fed}
use Rattle.hx_parse.specs.declared.places.Fed.TheVariants.{More, Node as Whole, End}
use Rattle.hx_parse.specs.declared.places.Place.{Place}
use Rattle.hx_parse.specs.declared.places.Place.TheVariants.{Title, Size, Between, Inside, After, Failed}
use Rattle.hx_parse.specs.declared.places.TreeFault.{TreeFault}
use Rattle.hx_parse.specs.declared.places.TreeFault.TheVariants.{Text, TooMany as TooManyNodes, Memory as NoMemory}
use Rattle.hx_parse.specs.declared.places.Next.{Next}
use Rattle.hx_parse.specs.declared.places.Stop.{Stop}
use Rattle.hx_parse.specs.declared.places.Stop.TheVariants.{Wrong, TooMany, Memory}
use Rattle.hx_text.specs.Grammars.{Begins}
use Rattle.hx_text.specs.Lengths.{most_nodes}
use Rattle.hx_text.specs.Entries.{EachEntryFits, entries_for, entries_of, entry_line, steps_told}
use Rattle.hx_text.specs.Entries.{threats_told, answers_told, fills_told, entries_told}
use Rattle.hx_parse.specs.EntryReads.{IsEntryLine}
use Rattle.hx_parse.specs.Ors.{BeginsLongOr}
use Rattle.hx_text.specs.TreeTexts.{AreTreeLines, AreTreeLinesOf, NodeFits, IsRootWinner}
use Rattle.hx_text.specs.TreeTexts.{HeadFits, title_line, front_lines, head_of, head_line, node_lines}

-- the winner in the last node's heading, if there is a node
abbrev pub IsLastWinner : List Node → Option Colour → Type 0
IsLastWinner nodes None = nodes ≡ []
IsLastWinner nodes (Some winner) = IsRootWinner nodes winner

-- the lines so far are those of these nodes
pub record StandsSoFar (so_far : SoFar) (nodes : List Node) (lines : List (List ℕ)) : Type 0 where
  pub is_size : IsExtent so_far.preamble.size.rows so_far.preamble.size.cols
  pub each : All (NodeFits so_far.preamble) nodes
  pub winner : IsLastWinner nodes so_far.winner
  pub count : so_far.count ≡ length nodes
  pub room : so_far.count ≤ most_nodes
  pub same : lines ≡ front_lines so_far.preamble ++ flat_map node_lines nodes

-- the entries of a begun node
abbrev pub entries_in : Begun → List Entry
entries_in begun = entries_for begun.steps.items begun.threats.items begun.lines.items begun.fills.items

-- how many entries there are of each kind, and that no kind began before the one before it was whole
pub record IsInOrder (begun : Begun) : Type 0 where
  pub steps : length begun.steps.items ≤ steps_told begun.head.opening
  pub threats : length begun.threats.items ≤ threats_told begun.head.opening
  pub answers : length begun.lines.items ≤ answers_told begun.head.opening
  pub fills : length begun.fills.items ≤ fills_told begun.head.opening
  pub threats_after_steps : 0 < length begun.threats.items → length begun.steps.items ≡ steps_told begun.head.opening
  pub answers_after_steps : 0 < length begun.lines.items → length begun.steps.items ≡ steps_told begun.head.opening
  pub answers_after_threats : 0 < length begun.lines.items
      → length begun.threats.items ≡ threats_told begun.head.opening
  pub fills_after_steps : 0 < length begun.fills.items → length begun.steps.items ≡ steps_told begun.head.opening
  pub fills_after_threats : 0 < length begun.fills.items → length begun.threats.items ≡ threats_told begun.head.opening
  pub fills_after_answers : 0 < length begun.fills.items → length begun.lines.items ≡ answers_told begun.head.opening
  pub missing : length begun.steps.items + length begun.threats.items + length begun.lines.items
      + length begun.fills.items + begun.missing ≡ entries_told begun.head.opening

-- each list has room for as many entries as the node's first line tells
pub record HasRoomForAll (begun : Begun) : Type 0 where
  pub steps : steps_told begun.head.opening ≤ vec_capacity begun.steps
  pub threats : threats_told begun.head.opening ≤ vec_capacity begun.threats
  pub answers : answers_told begun.head.opening ≤ vec_capacity begun.lines
  pub fills : fills_told begun.head.opening ≤ vec_capacity begun.fills

-- the lines so far are those of these nodes, and then of a node of which the entries that are missing may be none
pub record StandsBegun (begun : Begun) (nodes : List Node) (lines : List (List ℕ)) : Type 0 where
  pub before : List (List ℕ)
  pub stands : StandsSoFar begun.so_far nodes before
  pub room : begun.so_far.count < most_nodes
  pub head : HeadFits begun.so_far.preamble begun.head
  pub in_order : IsInOrder begun
  pub lists : HasRoomForAll begun
  pub each : EachEntryFits begun.so_far.preamble.size (entries_in begun)
  pub same : lines ≡ before ++ head_line begun.head ∷ map entry_line (entries_in begun)

-- the lines so far are those of these nodes, and then of a node that has not all of its lines
pub record StandsInside (begun : Begun) (nodes : List Node) (lines : List (List ℕ)) : Type 0 where
  pub begun_so : StandsBegun begun nodes lines
  pub lacks : 0 < begun.missing

-- the lines so far are those of these nodes, at this place in the text
abbrev pub Stands : Place → List Node → List (List ℕ) → Type 0
Stands Title nodes lines = (nodes ≡ []) × (lines ≡ [])
Stands (Size version) nodes lines = (nodes ≡ []) × (lines ≡ title_line version ∷ [])
Stands (Between so_far) nodes lines = StandsSoFar so_far nodes lines
Stands (Inside begun) nodes lines = StandsInside begun nodes lines
Stands (After preamble) nodes lines = (winner : Colour) × AreTreeLinesOf preamble nodes winner lines
Stands (Failed fault version) nodes lines = ⊥

-- the place after the last line
abbrev pub IsAfter : Place → Type 0
IsAfter place = (preamble : Preamble) × (place ≡ After preamble)

-- the place after this fault
abbrev pub IsFailed : Place → TreeFault → Type 0
IsFailed place fault = (version : Option Version) × (place ≡ Failed fault version)

-- the version of the text at this place, if its first line was read
abbrev pub version_at : Place → Option Version
version_at Title = None
version_at (Size version) = Some version
version_at (Between so_far) = Some so_far.preamble.version
version_at (Inside begun) = Some begun.so_far.preamble.version
version_at (After preamble) = Some preamble.version
version_at (Failed fault version) = version

-- a right first line of a node of this text
pub record IsNextNode (place : Place) (line : List ℕ) : Type 0 where
  pub so_far : SoFar
  pub is : place ≡ Between so_far
  pub head : Head
  pub fits : HeadFits so_far.preamble head
  pub same : line ≡ head_line head

-- the kind of the entry that is due
abbrev pub kind_due : Begun → EntryKind
kind_due begun =
    if nat_lt (length begun.steps.items) (steps_told begun.head.opening) then Step_kind else
    if nat_lt (length begun.threats.items) (threats_told begun.head.opening) then Threat_kind else
    if nat_lt (length begun.lines.items) (answers_told begun.head.opening) then Answer_kind else Fill_kind

-- The lines that take memory. A right first line of a node that tells of entries takes it for their lists, and where a
-- step is due, a line that begins as that of an Or with more than eight parts takes it for these.
pub data TakesMemory (place : Place) (line : List ℕ) : Type 0 where
  ForEntries : (first : IsNextNode place line) → 0 < entries_told first.head.opening → TakesMemory place line
  ForParts : (begun : Begun) → place ≡ Inside begun → kind_due begun ≡ Step_kind → BeginsLongOr line
      → TakesMemory place line

-- what a line brought: the place after it, the nodes before it, the lines with it; the end comes with the last line
-- alone
abbrev pub Brings : Fed → Place → List Node → List (List ℕ) → Type 0
Brings More new nodes lines = (¬ IsAfter new) × Stands new nodes lines
Brings (Whole node) new nodes lines = (¬ IsAfter new) × Stands new (nodes ++ node ∷ []) lines
Brings (End winner) new nodes lines =
    (preamble : Preamble) × (new ≡ After preamble) × AreTreeLinesOf preamble nodes winner lines

-- what a reader says of one more line: old and new are the places before and after it, lines the lines with it
abbrev pub Told : Place → List ℕ → Bool → ℕ → List Node → List (List ℕ) → Place → Result Fed TreeFault → Type 0
Told old line ended number nodes lines new (Ok fed) = IsTrue ended × Brings fed new nodes lines
-- the line is not ended, or is not of the grammar in its place
Told old line ended number nodes lines new (Err (Text at_line)) =
    (at_line ≡ number) × (IsTrue ended → Begins AreTreeLines lines → ⊥)
-- the line is a right first line of one node too many
Told old line ended number nodes lines new (Err (TooManyNodes count)) =
    IsTrue ended × (count ≡ most_nodes) × (length nodes ≡ most_nodes) × IsNextNode old line
-- the line takes memory
Told old line ended number nodes lines new (Err NoMemory) = IsTrue ended × TakesMemory old line

-- ---- words for the functions inside the crate alone

-- the node with this first line, which has no entry
abbrev pub IsWhole : Head → Node → Type 0
IsWhole head node = (head_of node ≡ head) × (entries_of node.rule ≡ [])

-- what the nodes have said, one more with them
abbrev pub HasOneMore : SoFar → Node → SoFar → Type 0
HasOneMore old node new =
    new ≡ record { preamble = old.preamble; count = old.count + 1; winner = Some node.heading.winner }

-- what taking a line says: the place and the nodes before the line, the line, the lines with it
abbrev pub Follows : Place → List Node → List ℕ → List (List ℕ) → Result Next Stop → Type 0
Follows old nodes line lines (Ok next) = Brings next.fed next.place nodes lines
Follows old nodes line lines (Err Wrong) = Begins AreTreeLines lines → ⊥
Follows old nodes line lines (Err TooMany) = (length nodes ≡ most_nodes) × IsNextNode old line
Follows old nodes line lines (Err Memory) = TakesMemory old line

-- the same, whatever nodes and lines came before
abbrev pub Goes : Place → List ℕ → Result Next Stop → Type 0
Goes old line result =
    (nodes : List Node) (lines : List (List ℕ)) → Stands old nodes lines
    → Follows old nodes line (lines ++ line ∷ []) result

-- the line is one of a node that more lines of it follow
abbrev pub GoesOn : Place → List ℕ → Place → Type 0
GoesOn old line new = (begun : Begun) × (old ≡ Inside begun) × Goes old line (Ok (record { fed = More; place = new }))

-- the line is that of a node which is whole with it
abbrev pub TakesNode : SoFar → List ℕ → SoFar → Node → Type 0
TakesNode old line new node = Goes (Between old) line (Ok (record { fed = Whole node; place = Between new }))

-- the line is no first line of a node of such a text
abbrev pub IsNoHead : Preamble → List ℕ → Type 0
IsNoHead preamble line = (head : Head) → HeadFits preamble head → line ≡ head_line head → ⊥

-- what comes after a node's first line
abbrev pub BeginsNode : SoFar → Head → Result Next Stop → Type 0
BeginsNode so_far head result =
    (nodes : List Node) (lines : List (List ℕ)) → StandsSoFar so_far nodes lines → so_far.count < most_nodes
    → HeadFits so_far.preamble head
    → Follows (Between so_far) nodes (head_line head) (lines ++ head_line head ∷ []) result

-- what comes after the last line of a node
abbrev pub EndsNode : SoFar → Node → Next → Type 0
EndsNode so_far node next =
    (nodes : List Node) (lines : List (List ℕ)) → StandsSoFar so_far nodes lines → so_far.count < most_nodes
    → NodeFits so_far.preamble node → Brings next.fed next.place nodes (lines ++ node_lines node)

-- the entry is added to the list of its kind
abbrev pub IsAdded : Begun → Entry → Begun → Type 0
IsAdded old (Step_entry step) new =
    (new.steps.items ≡ old.steps.items ++ step ∷ []) × (new.threats.items ≡ old.threats.items)
    × (new.lines.items ≡ old.lines.items) × (new.fills.items ≡ old.fills.items)
IsAdded old (Threat_entry place) new =
    (new.steps.items ≡ old.steps.items) × (new.threats.items ≡ old.threats.items ++ place ∷ [])
    × (new.lines.items ≡ old.lines.items) × (new.fills.items ≡ old.fills.items)
IsAdded old (Answer_entry line) new =
    (new.steps.items ≡ old.steps.items) × (new.threats.items ≡ old.threats.items)
    × (new.lines.items ≡ old.lines.items ++ line ∷ []) × (new.fills.items ≡ old.fills.items)
IsAdded old (Fill_entry fill) new =
    (new.steps.items ≡ old.steps.items) × (new.threats.items ≡ old.threats.items)
    × (new.lines.items ≡ old.lines.items) × (new.fills.items ≡ old.fills.items ++ fill ∷ [])

-- each list has the room that it had
pub record HasSameRoom (old new : Begun) : Type 0 where
  pub steps : vec_capacity new.steps ≡ vec_capacity old.steps
  pub threats : vec_capacity new.threats ≡ vec_capacity old.threats
  pub answers : vec_capacity new.lines ≡ vec_capacity old.lines
  pub fills : vec_capacity new.fills ≡ vec_capacity old.fills

-- the list of the entry's kind has no room for one more
abbrev pub HasNoRoomFor : Begun → Entry → Type 0
HasNoRoomFor begun (Step_entry step) = length begun.steps.items ≡ vec_capacity begun.steps
HasNoRoomFor begun (Threat_entry place) = length begun.threats.items ≡ vec_capacity begun.threats
HasNoRoomFor begun (Answer_entry line) = length begun.lines.items ≡ vec_capacity begun.lines
HasNoRoomFor begun (Fill_entry fill) = length begun.fills.items ≡ vec_capacity begun.fills

-- the begun node with one more entry
pub record IsWithEntry (old : Begun) (entry : Entry) (new : Begun) : Type 0 where
  pub same_so_far : new.so_far ≡ old.so_far
  pub same_head : new.head ≡ old.head
  pub missing : new.missing ≡ old.missing - 1
  pub rooms : HasSameRoom old new
  pub added : IsAdded old entry new

-- what comes after the lines of a begun node
abbrev pub SettlesNode : Begun → Next → Type 0
SettlesNode begun next =
    (nodes : List Node) (lines : List (List ℕ)) → StandsBegun begun nodes lines
    → Brings next.fed next.place nodes lines

-- what comes after an entry
abbrev pub AddsEntry : Begun → Entry → Result Next Stop → Type 0
AddsEntry begun entry result =
    (nodes : List Node) (lines : List (List ℕ)) → StandsInside begun nodes lines
    → IsEntryLine begun.so_far.preamble.size (kind_due begun) entry
    → Follows (Inside begun) nodes (entry_line entry) (lines ++ entry_line entry ∷ []) result

-- the fault of the line with this number, which was not taken
abbrev pub fault_of_stop : Stop → ℕ → TreeFault
fault_of_stop Wrong number = Text number
fault_of_stop TooMany number = TooManyNodes most_nodes
fault_of_stop Memory number = NoMemory
