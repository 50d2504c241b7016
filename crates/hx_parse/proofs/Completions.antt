-- From each place of a tree's text it can be gone on: with the lines that a node lacks, or with a node on an empty
-- board, if need be, and a last line. So the lines that a reader has read begin some text.
use Rattle.std.proofs.Common.{◌≡◌, ℕ, ◌≤◌, List, [], ◌∷◌, ◌++◌, length, refl, sym, ap, ◌∙◌, subst, arith, append_assoc, length-append}
use Rattle.std.proofs.lemmas.List.{append-nil}
use Rattle.std.proofs.lemmas.List.Elements.{All-nil, All-push}
use Rattle.std.specs.Prelude.{flat_map, All}
use Rattle.hx_board.specs.declared.colours.Colour.TheVariants.{Black}
use Rattle.hx_board.specs.Cells.{IsExtent}
use Rattle.hx_board.proofs.PositionLaws.{empty-is_position}
use Rattle.hx_tree.specs.declared.nodes.Node.{Node}
use Rattle.hx_tree.specs.declared.nodes.Rule.TheVariants.{Chain}
use Rattle.hx_text.specs.declared.versions.Version.{Version}
use Rattle.hx_text.specs.declared.versions.Version.TheVariants.{One}
use Rattle.hx_text.specs.declared.versions.Preamble.{Preamble}
use Rattle.hx_parse.specs.declared.places.Place.{Place}
use Rattle.hx_parse.specs.declared.places.Place.TheVariants.{Title, Size, Between, Inside, After, Failed}
use Rattle.hx_text.specs.PositionTexts.{size_line}
use Rattle.hx_text.specs.Grammars.{Begins}
use Rattle.hx_text.specs.TreeTexts.{AreTreeLines, AreTreeLinesOf, NodeFits, node_lines, front_lines, tree_lines, end_line}
use Rattle.hx_parse.specs.Places.{Stands}
use Rattle.hx_parse.proofs.Steps.{flat_map-push}
use Rattle.hx_parse.proofs.BegunNodes.{EndsInNode, inside_begins_node}

-- the text of these nodes and one more
abbrev pub whole_text : Preamble → List Node → Node → List (List ℕ)
whole_text preamble nodes node = tree_lines preamble (nodes ++ node ∷ []) node.heading.winner

pub whole_are_of : (preamble : Preamble) (nodes : List Node) (node : Node)
    → IsExtent preamble.size.rows preamble.size.cols → All (NodeFits preamble) nodes
    → NodeFits preamble node → length nodes ≤ 1048576
    → AreTreeLinesOf preamble (nodes ++ node ∷ []) node.heading.winner (whole_text preamble nodes node)
whole_are_of preamble nodes node extent each fits room = record {
  is_size = extent;
  each = All-push (NodeFits preamble) nodes node each fits;
  root = record { root = node; last = record { front = nodes; same = refl }; same = refl };
  count = omega (arith, length-append nodes (node ∷ []));
  same = refl;
}

pub whole_are : (preamble : Preamble) (nodes : List Node) (node : Node)
    → IsExtent preamble.size.rows preamble.size.cols → All (NodeFits preamble) nodes
    → NodeFits preamble node → length nodes ≤ 1048576 → AreTreeLines (whole_text preamble nodes node)
whole_are preamble nodes node extent each fits room =
    record {
      preamble = preamble;
      nodes = nodes ++ node ∷ [];
      winner = node.heading.winner;
      are = whole_are_of preamble nodes node extent
          each fits room;
    }

-- the text goes on with this node and ends
with_node : (preamble : Preamble) (nodes : List Node) (node : Node) (lines rest : List (List ℕ))
    → lines ≡ front_lines preamble ++ flat_map node_lines nodes → IsExtent preamble.size.rows preamble.size.cols
    → All (NodeFits preamble) nodes
    → NodeFits preamble node → length nodes ≤ 1048576
    → rest ≡ node_lines node ++ end_line (length (nodes ++ node ∷ [])) node.heading.winner ∷ [] → AreTreeLines (lines ++ rest)
with_node preamble nodes node lines rest is extent each fits room rest_is =
    let front : List (List ℕ) = front_lines preamble in
    let last : List (List ℕ) = end_line (length (nodes ++ node ∷ [])) node.heading.winner ∷ [] in
    let same : lines ++ rest ≡ whole_text preamble nodes node =
    ap (λ (ls : List (List ℕ)). ls ++ rest) is ∙ ap (λ (ls : List (List ℕ)). (front ++ flat_map node_lines nodes) ++ ls) rest_is
    ∙ sym (append_assoc (front ++ flat_map node_lines nodes) (node_lines node) last)
    ∙ ap (λ (ls : List (List ℕ)). ls ++ last)
    (append_assoc front (flat_map node_lines nodes) (node_lines node) ∙ ap (λ (ls : List (List ℕ)). front ++ ls)
    (sym (flat_map-push nodes node))) in
    subst AreTreeLines (sym same) (whole_are preamble nodes node extent each fits room)

-- a node on an empty board
abbrev pub plain : Preamble → Node
plain preamble = record {
  heading =
      record { position = record { size = preamble.size; black = 0; white = 0 }; to_move = Black; winner = Black };
  rule = Chain;
}

pub plain_fits : (preamble : Preamble) → IsExtent preamble.size.rows preamble.size.cols → NodeFits preamble (plain preamble)
plain_fits preamble extent = record { size_is = refl; board = (extent, empty-is_position preamble.size); rule = tt }

-- the text goes on with the lines that a node lacks
Begins-in_node : (preamble : Preamble) (nodes : List Node) (lines : List (List ℕ))
    → IsExtent preamble.size.rows preamble.size.cols → All (NodeFits preamble) nodes
    → length nodes ≤ 1048576 → EndsInNode preamble nodes lines → Begins AreTreeLines lines
Begins-in_node preamble nodes lines extent each room ends =
    let front : List (List ℕ) = front_lines preamble ++ flat_map node_lines nodes in
    let last : List (List ℕ) = end_line (length (nodes ++ ends.node ∷ [])) ends.node.heading.winner ∷ [] in
    let same : lines ++ (ends.rest ++ last) ≡ front ++ (node_lines ends.node ++ last) =
    ap (λ (ls : List (List ℕ)). ls ++ (ends.rest ++ last)) ends.same
    ∙ append_assoc front ends.part (ends.rest ++ last)
    ∙ ap (λ (ls : List (List ℕ)). front ++ ls) (sym (append_assoc ends.part ends.rest last))
    ∙ ap (λ (ls : List (List ℕ)). front ++ (ls ++ last)) (sym ends.parts) in (
      ends.rest ++ last,
      subst AreTreeLines (sym same)
          (with_node preamble nodes ends.node front (node_lines ends.node ++ last) refl extent each ends.fits room refl),
    )

-- a text of this version on a board of one cell
abbrev pub one : Version → Preamble
one version = record { version = version; size = record { rows = 1; cols = 1 } }

one_cell : (version : Version) → AreTreeLines (whole_text (one version) [] (plain (one version)))
one_cell version =
    whole_are (one version) [] (plain (one version)) (omega arith, omega arith, omega arith, omega arith) (All-nil (NodeFits (one version)))
    (plain_fits (one version) (omega arith, omega arith, omega arith, omega arith)) (omega arith)

pub Begins-stands : (place : Place) (nodes : List Node) (lines : List (List ℕ)) → Stands place nodes lines
    → Begins AreTreeLines lines
Begins-stands Title nodes lines stands = (
  whole_text (one One) [] (plain (one One)),
  subst AreTreeLines
      (ap (λ (ls : List (List ℕ)). ls ++ whole_text (one One) [] (plain (one One))) (sym stands.1))
      (one_cell One),
)
Begins-stands (Size version) nodes lines stands =
    let preamble : Preamble = one version in
    let rest : List (List ℕ) = size_line preamble.size ∷ (flat_map node_lines (plain preamble ∷ []) ++ end_line 1 Black ∷ []) in (
      rest,
      subst AreTreeLines (ap (λ (ls : List (List ℕ)). ls ++ rest) (sym stands.1)) (one_cell version),
    )
Begins-stands (Between so_far) nodes lines stands = (
  node_lines (plain so_far.preamble) ++ end_line (length (nodes ++ plain so_far.preamble ∷ [])) Black ∷ [],
  with_node so_far.preamble nodes (plain so_far.preamble) lines _ stands.same stands.is_size stands.each
      (plain_fits so_far.preamble stands.is_size) (omega (arith, stands.room, stands.count)) refl,
)
Begins-stands (Inside begun) nodes lines stands =
    let so = stands.begun_so.stands in
    Begins-in_node begun.so_far.preamble nodes lines so.is_size so.each (omega (arith, so.room, so.count))
    (inside_begins_node begun nodes lines stands)
Begins-stands (After preamble) nodes lines stands = (
  [],
  subst AreTreeLines (sym (append-nil lines))
      (record { preamble = preamble; nodes = nodes; winner = stands.0; are = stands.1 }),
)
Begins-stands (Failed fault version) nodes lines stands = absurd stands
