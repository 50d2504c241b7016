-- No line of a tree's text has an LF in it, since its words are of high bytes. So each line in which such a text begins
-- is a line of the input.
use Rattle.std.proofs.Common.{ℕ, ◌≤◌, List, [], ◌∷◌, ◌++◌, length, map, sym, subst, arith}
use Rattle.std.specs.Prelude.{flat_map, All}
use Rattle.std.proofs.lemmas.List.Elements.{All-head, All-tail}
use Rattle.hx_board.specs.declared.colours.Colour.{Colour}
use Rattle.hx_board.specs.Cells.{Extent, IsExtent}
use Rattle.hx_tree.specs.declared.nodes.Node.{Node}
use Rattle.hx_text.specs.declared.entries.Entry.{Entry}
use Rattle.hx_text.specs.declared.entries.Entry.TheVariants.{Step as Step_entry, Threat as Threat_entry, Answer as Answer_entry}
use Rattle.hx_text.specs.declared.entries.Entry.TheVariants.{Fill as Fill_entry}
use Rattle.hx_text.specs.declared.versions.Preamble.{Preamble}
use Rattle.hx_lex.specs.Words.{IsNumber}
use Rattle.hx_lex.specs.Marks.{Lacks}
use Rattle.hx_text.specs.Grammars.{Begins}
use Rattle.hx_text.specs.StepTexts.{step_words, threat_words}
use Rattle.hx_text.specs.FillTexts.{fill_words}
use Rattle.hx_text.specs.Entries.{answer_words, entry_line, EntryFits, EachEntryFits, entries_of}
use Rattle.hx_text.specs.TreeTexts.{AreTreeLines, NodeFits, head_of, head_words, node_lines, front_lines, tree_lines}
use Rattle.hx_text.specs.TreeTexts.{end_line}
use Rattle.hx_text.proofs.Cuts.{AllLack, AllLack-append}
use Rattle.hx_text.proofs.LineGrammars.{begun_lack}
use Rattle.hx_lex.proofs.HighBytes.{Lacks-spaced}
use Rattle.hx_text.proofs.LineWords.{title_words, AllHigh-title_words, size_words, AllHigh-size_words, end_words, AllHigh-end_words}
use Rattle.hx_text.proofs.HeadLines.{AllHigh-head_words}
use Rattle.hx_text.proofs.NodeParts.{node_lines-parts, head_fits, entries_fit}
use Rattle.hx_text.proofs.StepWords.{AllHigh-step_words, AllHigh-threat_words}
use Rattle.hx_text.proofs.AnswerLines.{AllHigh-answer_words}
use Rattle.hx_text.proofs.FillLines.{AllHigh-fill_words}

Lacks-entry_line : (size : Extent) (entry : Entry) → size.rows ≤ 11 → EntryFits size entry → Lacks 10 (entry_line entry)
Lacks-entry_line size (Step_entry step) few fits = Lacks-spaced (step_words step) (AllHigh-step_words size step few fits)
Lacks-entry_line size (Threat_entry place) few fits = Lacks-spaced (threat_words place) (AllHigh-threat_words place fits)
Lacks-entry_line size (Answer_entry line) few fits = Lacks-spaced (answer_words line) (AllHigh-answer_words size line few fits)
Lacks-entry_line size (Fill_entry fill) few fits = Lacks-spaced (fill_words fill) (AllHigh-fill_words size fill few fits)

AllLack-entries : (size : Extent) (entries : List Entry) → size.rows ≤ 11 → EachEntryFits size entries → AllLack (map entry_line entries)
AllLack-entries size [] few each = tt
AllLack-entries size (entry ∷ entries) few each = (Lacks-entry_line size entry few each.0, AllLack-entries size entries few each.1)

AllLack-node : (preamble : Preamble) (node : Node) → preamble.size.rows ≤ 11 → NodeFits preamble node → AllLack (node_lines node)
AllLack-node preamble node few fits =
    subst AllLack (sym (node_lines-parts node)) (
      Lacks-spaced (head_words (head_of node)) (AllHigh-head_words preamble (head_of node) few (head_fits node fits).opening),
      AllLack-entries preamble.size (entries_of node.rule) few (entries_fit node fits),
    )

AllLack-nodes : (preamble : Preamble) (nodes : List Node) → preamble.size.rows ≤ 11 → All (NodeFits preamble) nodes
    → AllLack (flat_map node_lines nodes)
AllLack-nodes preamble [] few each = tt
AllLack-nodes preamble (node ∷ nodes) few each =
    AllLack-append (node_lines node) (flat_map node_lines nodes)
    (AllLack-node preamble node few (All-head (NodeFits preamble) node nodes each))
    (AllLack-nodes preamble nodes few (All-tail (NodeFits preamble) node nodes each))

AllLack-front_lines : (preamble : Preamble) → IsExtent preamble.size.rows preamble.size.cols → AllLack (front_lines preamble)
AllLack-front_lines preamble extent = (
  Lacks-spaced (title_words preamble.version) (AllHigh-title_words preamble.version),
  (
    Lacks-spaced (size_words preamble.size.rows preamble.size.cols)
        (AllHigh-size_words preamble.size.rows preamble.size.cols (omega (arith, extent)) (omega (arith, extent))),
    tt,
  ),
)

Lacks-end_line : (count : ℕ) (winner : Colour) → IsNumber count → Lacks 10 (end_line count winner)
Lacks-end_line count winner small = Lacks-spaced (end_words count winner) (AllHigh-end_words count winner small)

pub AllLack-tree_lines : (lines : List (List ℕ)) → AreTreeLines lines → AllLack lines
AllLack-tree_lines lines are =
    let few : are.preamble.size.rows ≤ 11 = are.are.is_size.1 in
    let front : AllLack (front_lines are.preamble ++ flat_map node_lines are.nodes) =
    AllLack-append (front_lines are.preamble) (flat_map node_lines are.nodes) (AllLack-front_lines are.preamble are.are.is_size)
    (AllLack-nodes are.preamble are.nodes few are.are.each) in
    let whole : AllLack (tree_lines are.preamble are.nodes are.winner) =
    AllLack-append (front_lines are.preamble ++ flat_map node_lines are.nodes) (end_line (length are.nodes) are.winner ∷ []) front
    (Lacks-end_line (length are.nodes) are.winner are.are.count, tt) in
    subst AllLack (sym are.are.same) whole

pub AllLack-begun : (lines : List (List ℕ)) → Begins AreTreeLines lines → AllLack lines
AllLack-begun lines begins = begun_lack AreTreeLines AllLack-tree_lines lines begins
