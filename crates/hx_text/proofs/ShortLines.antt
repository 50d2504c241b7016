-- The lines of a tree's text are short. A line is no longer than its words with a space after each, and each word but
-- those of an Or is short and stands among few.
use Rattle.std.proofs.Common.{ℕ, suc, zero, ◌+◌, ◌*◌, ◌/◌, ◌<◌, ◌≤◌, List, [], ◌∷◌, ◌++◌, length, map, get_or, sym, subst, arith}
use Rattle.std.proofs.Common.{length-append}
use Rattle.std.specs.Prelude.{flat_map}
use Rattle.std.specs.List.{All as EachItem}
use Rattle.std.proofs.lemmas.List.Elements.{All-head, All-tail}
use Rattle.std.specs.Fmt.{decimal}
use Rattle.std.proofs.lemmas.Fmt.{length-decimal-le}
use Rattle.hx_board.specs.declared.colours.Colour.{Colour}
use Rattle.hx_board.specs.declared.vertices.Vertex.{Vertex}
use Rattle.hx_board.specs.declared.vertices.Vertex.TheVariants.{Of, First, Last}
use Rattle.hx_board.specs.Cells.{Extent, IsExtent, OnBoard}
use Rattle.hx_board.specs.Graph.{IsVertex}
use Rattle.hx_inferior.specs.declared.fills.FillStep.{FillStep}
use Rattle.hx_inferior.specs.declared.fills.FillStep.TheVariants.{Other, Dead, Pair}
use Rattle.hx_inferior.specs.declared.dominations.Kill.TheVariants.{ByDead, ByPair}
use Rattle.hx_link.specs.declared.steps.Step.{Step}
use Rattle.hx_link.specs.declared.steps.Step.TheVariants.{Base, AndStone, AndCell, Or}
use Rattle.hx_tree.specs.declared.nodes.Line.{Line}
use Rattle.hx_tree.specs.declared.nodes.Line.TheVariants.{Child, Under}
use Rattle.hx_tree.specs.declared.nodes.Node.{Node}
use Rattle.hx_tree.specs.Answers.{cell_of}
use Rattle.hx_text.specs.declared.entries.Entry.{Entry}
use Rattle.hx_text.specs.declared.entries.Entry.TheVariants.{Step as Step_entry, Threat as Threat_entry, Answer as Answer_entry}
use Rattle.hx_text.specs.declared.entries.Entry.TheVariants.{Fill as Fill_entry}
use Rattle.hx_text.specs.declared.heads.Opening.{Opening}
use Rattle.hx_text.specs.declared.heads.Opening.TheVariants.{Chain, Links, Move, All as All_opening, Fill, Turned}
use Rattle.hx_text.specs.declared.heads.Head.{Head}
use Rattle.hx_text.specs.declared.versions.Version.{Version}
use Rattle.hx_text.specs.declared.versions.Version.TheVariants.{One, Two}
use Rattle.hx_text.specs.declared.versions.Preamble.{Preamble}
use Rattle.hx_lex.specs.Words.{spaced, cell_word, IsNumber, vertex_word}
use Rattle.hx_text.specs.StepTexts.{step_words, StepFits}
use Rattle.hx_text.specs.FillTexts.{fill_words, FillFits}
use Rattle.hx_text.specs.Entries.{reason_words, answer_words, ReasonFits, AnswerFits, entry_line, EntryFits, EachEntryFits, entries_of}
use Rattle.hx_text.specs.TreeTexts.{AreTreeLines, NodeFits, OpeningFits, head_of, head_words, opening_words, node_lines}
use Rattle.hx_text.specs.TreeTexts.{front_lines, tree_lines, title_line, end_line}
use Rattle.hx_text.specs.Lengths.{longest_line, AreShortLines}
use Rattle.hx_lex.proofs.Masks.{length-hex}
use Rattle.hx_lex.proofs.WordLengths.{length-colour_word, length-small}
use Rattle.hx_text.proofs.NodeParts.{node_lines-parts, head_fits, entries_fit}

-- the bytes of some words, with one more for each
abbrev total : List (List ℕ) → ℕ
total [] = 0
total (word ∷ words) = (length word + 1) + total words

length-spaced : (word : List ℕ) (words : List (List ℕ)) → length (spaced (word ∷ words)) + 1 ≤ total (word ∷ words)
unfolding spaced
length-spaced word [] = omega arith
length-spaced word (next ∷ words) = omega (arith, length-append word (32 ∷ spaced (next ∷ words)), length-spaced next words)

-- ---- words

short_number : (n : ℕ) → IsNumber n → length (decimal n) ≤ 10
short_number n small = length-decimal-le 10 n (omega arith) (omega arith) (omega arith)

short_cell : (size : Extent) (cell : ℕ) → size.rows ≤ 11 → OnBoard size cell → length (cell_word cell) ≤ 3
short_cell size cell few on = omega (arith, length-small (cell / 11 + 1) (omega (arith, on.row)))

short_vertex : (size : Extent) (vertex : Vertex) → size.rows ≤ 11 → IsVertex size vertex → length (vertex_word vertex) ≤ 5
short_vertex size (Of cell) few on = omega (arith, short_cell size cell few on)
short_vertex size First few on = omega arith
short_vertex size Last few on = omega arith

short_numbers : (numbers : List ℕ) → EachItem IsNumber numbers → total (map decimal numbers) ≤ 11 * length numbers
short_numbers [] small = omega arith
short_numbers (n ∷ numbers) small =
    omega (arith, short_number n (All-head IsNumber n numbers small), short_numbers numbers (All-tail IsNumber n numbers small))

-- ---- the lines of a node

short_step : (size : Extent) (step : Step) → size.rows ≤ 11 → StepFits size step → total (step_words step) ≤ suc longest_line
short_step size (Base a b) few fits = omega (arith, short_vertex size a few fits.0, short_vertex size b few fits.1)
short_step size (AndStone left right) few fits = omega (arith, short_number left fits.0, short_number right fits.1)
short_step size (AndCell left right) few fits = omega (arith, short_number left fits.0, short_number right fits.1)
short_step size (Or parts) few fits = omega (arith, fits.0, short_numbers parts fits.1)

short_reason : (size : Extent) (line : Line) → size.rows ≤ 11 → ReasonFits size line → total (reason_words line) ≤ 17
short_reason size (Child cell child) few fits = omega (arith, short_number child fits)
short_reason size (Under cell better ByDead) few on = omega (arith, short_cell size better few on)
short_reason size (Under cell better (ByPair partner)) few fits =
    omega (arith, short_cell size better few fits.0, short_cell size partner few fits.1)

short_answer : (size : Extent) (line : Line) → size.rows ≤ 11 → AnswerFits size line → total (answer_words line) ≤ suc longest_line
short_answer size line few fits = omega (arith, short_cell size (cell_of line) few fits.0, short_reason size line few fits.1)

short_fill : (size : Extent) (fill : FillStep) → size.rows ≤ 11 → FillFits size fill → total (fill_words fill) ≤ suc longest_line
short_fill size (Other cell) few on = omega (arith, short_cell size cell few on)
short_fill size (Dead cell) few on = omega (arith, short_cell size cell few on)
short_fill size (Pair a b) few fits = omega (arith, short_cell size a few fits.0, short_cell size b few fits.1)

line_of : (word : List ℕ) (words : List (List ℕ)) → total (word ∷ words) ≤ suc longest_line → length (spaced (word ∷ words)) ≤ longest_line
line_of word words short = omega (arith, length-spaced word words, short)

short_step_line : (size : Extent) (step : Step) → size.rows ≤ 11 → StepFits size step → length (spaced (step_words step)) ≤ longest_line
short_step_line size (Base a b) few fits = line_of _ _ (short_step size (Base a b) few fits)
short_step_line size (AndStone left right) few fits = line_of _ _ (short_step size (AndStone left right) few fits)
short_step_line size (AndCell left right) few fits = line_of _ _ (short_step size (AndCell left right) few fits)
short_step_line size (Or parts) few fits = line_of _ _ (short_step size (Or parts) few fits)

short_fill_line : (size : Extent) (fill : FillStep) → size.rows ≤ 11 → FillFits size fill → length (spaced (fill_words fill)) ≤ longest_line
short_fill_line size (Other cell) few fits = line_of _ _ (short_fill size (Other cell) few fits)
short_fill_line size (Dead cell) few fits = line_of _ _ (short_fill size (Dead cell) few fits)
short_fill_line size (Pair a b) few fits = line_of _ _ (short_fill size (Pair a b) few fits)

short_entry : (size : Extent) (entry : Entry) → size.rows ≤ 11 → EntryFits size entry → length (entry_line entry) ≤ longest_line
short_entry size (Step_entry step) few fits = short_step_line size step few fits
short_entry size (Threat_entry place) few fits = line_of _ _ (omega (arith, short_number place fits))
short_entry size (Answer_entry line) few fits = line_of _ _ (short_answer size line few fits)
short_entry size (Fill_entry fill) few fits = short_fill_line size fill few fits

short_opening : (preamble : Preamble) (opening : Opening) → preamble.size.rows ≤ 11 → OpeningFits preamble opening
    → total (opening_words opening) ≤ 40
short_opening preamble Chain few fits = omega arith
short_opening preamble (Links steps) few fits = omega (arith, short_number steps (omega (arith, fits)))
short_opening preamble (Move cell child) few fits = omega (arith, short_cell preamble.size cell few fits.0, short_number child fits.1)
short_opening preamble (All_opening steps threats lines) few fits =
    omega (
      arith,
      short_number steps (omega (arith, fits.0)),
      short_number threats (omega (arith, fits.1)),
      short_number lines (omega (arith, fits.2)),
    )
short_opening preamble (Fill fills child) few fits = omega (arith, short_number fills (omega (arith, fits.0)), short_number child fits.1)
short_opening preamble (Turned child) few fits = omega (arith, short_number child fits.1)

short_head : (preamble : Preamble) (head : Head) → preamble.size.rows ≤ 11 → OpeningFits preamble head.opening
    → length (spaced (head_words head)) ≤ longest_line
short_head preamble head few fits =
    line_of _ _ (omega (
      arith,
      length-hex 32 head.heading.position.black,
      length-hex 32 head.heading.position.white,
      length-colour_word head.heading.to_move,
      length-colour_word head.heading.winner,
      short_opening preamble head.opening few fits,
    ))

-- ---- all lines

abbrev pub AllShort : List (List ℕ) → Type 0
AllShort [] = Unit {0}
AllShort (line ∷ lines) = (length line ≤ longest_line) × AllShort lines

AllShort-append : (a b : List (List ℕ)) → AllShort a → AllShort b → AllShort (a ++ b)
AllShort-append [] b sa sb = sb
AllShort-append (line ∷ a) b sa sb = (sa.0, AllShort-append a b sa.1 sb)

pub AllShort-front : (before rest : List (List ℕ)) → AllShort (before ++ rest) → AllShort before
AllShort-front [] rest all = tt
AllShort-front (line ∷ before) rest all = (all.0, AllShort-front before rest all.1)

pub AllShort-middle : (before : List (List ℕ)) (line : List ℕ) (rest : List (List ℕ)) → AllShort (before ++ line ∷ rest)
    → length line ≤ longest_line
AllShort-middle [] line rest all = all.0
AllShort-middle (first ∷ before) line rest all = AllShort-middle before line rest all.1

AllShort-entries : (size : Extent) (entries : List Entry) → size.rows ≤ 11 → EachEntryFits size entries → AllShort (map entry_line entries)
AllShort-entries size [] few each = tt
AllShort-entries size (entry ∷ entries) few each = (short_entry size entry few each.0, AllShort-entries size entries few each.1)

AllShort-node : (preamble : Preamble) (node : Node) → preamble.size.rows ≤ 11 → NodeFits preamble node → AllShort (node_lines node)
AllShort-node preamble node few fits =
    subst AllShort (sym (node_lines-parts node)) (
      short_head preamble (head_of node) few (head_fits node fits).opening,
      AllShort-entries preamble.size (entries_of node.rule) few (entries_fit node fits),
    )

AllShort-nodes : (preamble : Preamble) (nodes : List Node) → preamble.size.rows ≤ 11 → EachItem (NodeFits preamble) nodes
    → AllShort (flat_map node_lines nodes)
AllShort-nodes preamble [] few each = tt
AllShort-nodes preamble (node ∷ nodes) few each =
    AllShort-append (node_lines node) (flat_map node_lines nodes)
    (AllShort-node preamble node few (All-head (NodeFits preamble) node nodes each))
    (AllShort-nodes preamble nodes few (All-tail (NodeFits preamble) node nodes each))

short_title : (version : Version) → length (title_line version) ≤ longest_line
short_title One = line_of _ _ (omega arith)
short_title Two = line_of _ _ (omega arith)

AllShort-front_lines : (preamble : Preamble) → IsExtent preamble.size.rows preamble.size.cols → AllShort (front_lines preamble)
AllShort-front_lines preamble extent = (
  short_title preamble.version,
  (
    line_of _ _ (omega (
      arith,
      length-small preamble.size.rows (omega (arith, extent)),
      length-small preamble.size.cols (omega (arith, extent)),
    )),
    tt,
  ),
)

short_end : (count : ℕ) (winner : Colour) → IsNumber count → length (end_line count winner) ≤ longest_line
short_end count winner small = line_of _ _ (omega (arith, short_number count small, length-colour_word winner))

pub AllShort-tree_lines : (lines : List (List ℕ)) → AreTreeLines lines → AllShort lines
AllShort-tree_lines lines are =
    let few : are.preamble.size.rows ≤ 11 = are.are.is_size.1 in
    let front : AllShort (front_lines are.preamble ++ flat_map node_lines are.nodes) =
    AllShort-append (front_lines are.preamble) (flat_map node_lines are.nodes) (AllShort-front_lines are.preamble are.are.is_size)
    (AllShort-nodes are.preamble are.nodes few are.are.each) in
    let whole : AllShort (tree_lines are.preamble are.nodes are.winner) =
    AllShort-append (front_lines are.preamble ++ flat_map node_lines are.nodes) (end_line (length are.nodes) are.winner ∷ []) front
    (short_end (length are.nodes) are.winner are.are.count, tt) in
    subst AllShort (sym are.are.same) whole

each_short : (lines : List (List ℕ)) → AllShort lines → (k : ℕ) (d : List ℕ) → k < length lines → length (get_or lines k d) ≤ longest_line
each_short [] all k d inside = absurd (omega (arith, inside))
each_short (line ∷ lines) all zero d inside = all.0
each_short (line ∷ lines) all (suc k) d inside = each_short lines all.1 k d (omega (arith, inside))

pub lines_are_short : (lines : List (List ℕ)) → AreTreeLines lines → AreShortLines lines
lines_are_short lines are = λ k d inside. each_short lines (AllShort-tree_lines lines are) k d inside
