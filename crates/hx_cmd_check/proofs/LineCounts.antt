-- How many lines the nodes of a text have. A node has no more entries than its first line may tell, and a text no more
-- nodes than it may have, so a count of lines never comes to its last value.
use Rattle.std.proofs.Common.{ℕ, ◌*◌, ◌<◌, ◌≤◌, ◌^◌, List, [], ◌∷◌, ◌++◌, length, ap, arith, length-append}
use Rattle.std.specs.List.{All as EachItem}
use Rattle.std.proofs.lemmas.List.{length-map}
use Rattle.std.proofs.lemmas.List.Elements.{All-head, All-tail}
use Rattle.std.specs.Prelude.{flat_map}
use Rattle.hx_tree.specs.declared.nodes.Node.{Node}
use Rattle.hx_text.specs.declared.heads.Opening.{Opening}
use Rattle.hx_text.specs.declared.heads.Opening.TheVariants.{Chain, Links, Move, All, Fill, Turned}
use Rattle.hx_text.specs.declared.versions.Preamble.{Preamble}
use Rattle.hx_text.specs.Entries.{entry_line, entries_of, entries_told, opening_of}
use Rattle.hx_text.specs.TreeTexts.{NodeFits, OpeningFits, node_lines, end_line}
use Rattle.hx_text.proofs.EntryLists.{length-entries_of}
use Rattle.hx_text.proofs.NodeParts.{node_lines-parts, head_fits}
use Rattle.hx_cmd_check.specs.Judging.{EndedIn}

few_told : (preamble : Preamble) (opening : Opening) → OpeningFits preamble opening → entries_told opening ≤ 9000
few_told preamble Chain fits = omega arith
few_told preamble (Links steps) fits = omega (arith, fits)
few_told preamble (Move cell child) fits = omega arith
few_told preamble (All steps threats lines) fits = omega (arith, fits.0, fits.1, fits.2)
few_told preamble (Fill fills child) fits = omega (arith, fits.0)
few_told preamble (Turned child) fits = omega arith

few_lines : (preamble : Preamble) (node : Node) → NodeFits preamble node → length (node_lines node) ≤ 9001
few_lines preamble node fits =
    omega (
      arith,
      ap length (node_lines-parts node),
      length-map (entries_of node.rule) entry_line,
      length-entries_of node.rule,
      few_told preamble (opening_of node.rule) (head_fits node fits).opening,
    )

few_lines_in : (preamble : Preamble) (nodes : List Node) → EachItem (NodeFits preamble) nodes
    → length (flat_map node_lines nodes) ≤ 9001 * length nodes
few_lines_in preamble [] each = omega arith
few_lines_in preamble (node ∷ nodes) each =
    omega (
      arith,
      few_lines preamble node (All-head (NodeFits preamble) node nodes each),
      few_lines_in preamble nodes (All-tail (NodeFits preamble) node nodes each),
      length-append (node_lines node) (flat_map node_lines nodes),
    )

pub ended_few : (lines : List (List ℕ)) (nodes : List Node) → EndedIn lines nodes → length lines < 2 ^ 63
ended_few lines nodes ended =
    let all : List Node = nodes ++ ended.later in
    let end : List (List ℕ) = end_line (length all) ended.winner ∷ [] in
    omega (
      arith,
      ended.few,
      few_lines_in ended.preamble all ended.text.each,
      length-append lines ended.rest,
      ap length ended.text.same,
      length-append (flat_map node_lines all) end,
    )
