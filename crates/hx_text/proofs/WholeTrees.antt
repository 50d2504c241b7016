-- A text tells its nodes, and what is written piece by piece is the text of the nodes.
use Rattle.std.proofs.Common.{◌≡◌, ℕ, List, [], ◌∷◌, ◌++◌, length, map, refl, sym, ap, ◌∙◌, subst}
use Rattle.std.proofs.lemmas.List.{append-nil}
use Rattle.std.specs.Prelude.{flat_map, All}
use Rattle.hx_board.specs.declared.colours.Colour.{Colour}
use Rattle.hx_board.specs.Cells.{IsExtent}
use Rattle.hx_tree.specs.declared.nodes.Node.{Node}
use Rattle.hx_text.specs.declared.versions.Preamble.{Preamble}
use Rattle.hx_lex.specs.Words.{IsNumber, spaced}
use Rattle.hx_text.specs.Grammars.{text_of}
use Rattle.hx_text.specs.TreeTexts.{AreTreeLinesOf, IsTreeText, NodeFits, IsRootWinner, list_words, node_lines, front_lines}
use Rattle.hx_text.specs.TreeTexts.{end_line, tree_lines}
use Rattle.hx_text.specs.TreeTexts.{written_tree}
use Rattle.hx_lex.proofs.Ends.{push-some}
use Rattle.hx_text.proofs.Cuts.{text_injective, text_of-append}
use Rattle.hx_text.proofs.TreeLacks.{AllLack-tree_lines}
use Rattle.hx_text.proofs.Alignment.{Aligned, aligned}

no_more : (more : List Node) (end last : List ℕ) → end ∷ [] ≡ flat_map node_lines more ++ last ∷ [] → more ≡ []
no_more [] end last e = refl
no_more (node ∷ more) end last e =
    let later : List (List ℕ) = map spaced (list_words node.rule) ++ flat_map node_lines more in
    let none : later ++ last ∷ [] ≡ [] = cc in
    absurd (push-some later last none)

same_nodes : (preamble first : Preamble) (a b : List Node) (v w : Colour) (lines : List (List ℕ)) → AreTreeLinesOf first a v lines
    → AreTreeLinesOf preamble b w lines → a ≡ b
same_nodes preamble first a b v w lines are_a are_b =
    let on : Aligned first a (end_line (length a) v ∷ []) preamble b w =
    aligned first a (front_lines first ++ flat_map node_lines a) (end_line (length a) v ∷ []) preamble b w are_a.is_size are_a.each refl
    (subst (AreTreeLinesOf preamble b w) are_a.same are_b) in
    let none : on.on.more ≡ [] = no_more on.on.more (end_line (length a) v) (end_line (length b) w) on.on.rest_is in
    sym (on.on.nodes_are ∙ ap (λ (ns : List Node). a ++ ns) none ∙ append-nil a)

-- two lists of nodes with the same text are the same
pub text_tells_nodes : (bytes : List ℕ) (a b : List Node) → IsTreeText bytes a → IsTreeText bytes b → a ≡ b
text_tells_nodes bytes a b is_a is_b =
    let lines : is_a.lines ≡ is_b.lines =
    text_injective is_a.lines is_b.lines
    (AllLack-tree_lines is_a.lines (record { preamble = is_a.preamble; nodes = a; winner = is_a.winner; are = is_a.are }))
    (AllLack-tree_lines is_b.lines (record { preamble = is_b.preamble; nodes = b; winner = is_b.winner; are = is_b.are }))
    (sym is_a.same ∙ is_b.same) in
    same_nodes is_b.preamble is_a.preamble a b is_a.winner is_b.winner is_b.lines
    (subst (AreTreeLinesOf is_a.preamble a is_a.winner) lines is_a.are) is_b.are

text_of-nodes : (nodes : List Node) → text_of (flat_map node_lines nodes) ≡ flat_map (λ node. text_of (node_lines node)) nodes
unfolding text_of
text_of-nodes [] = refl
text_of-nodes (node ∷ nodes) =
    text_of-append (node_lines node) (flat_map node_lines nodes)
    ∙ ap (λ (t : List ℕ). text_of (node_lines node) ++ t) (text_of-nodes nodes)

written_text : (preamble : Preamble) (nodes : List Node) (winner : Colour)
    → written_tree preamble nodes winner ≡ text_of (tree_lines preamble nodes winner)
written_text preamble nodes winner =
    sym (text_of-append (front_lines preamble ++ flat_map node_lines nodes) (end_line (length nodes) winner ∷ [])
    ∙ ap (λ (t : List ℕ). t ++ text_of (end_line (length nodes) winner ∷ []))
    (text_of-append (front_lines preamble) (flat_map node_lines nodes)
    ∙ ap (λ (t : List ℕ). text_of (front_lines preamble) ++ t) (text_of-nodes nodes)))

-- what is written piece by piece is the text of the nodes, with the lines before them that were written
pub written_with : (preamble : Preamble) (nodes : List Node) (winner : Colour) → IsExtent preamble.size.rows preamble.size.cols
    → All (NodeFits preamble) nodes
    → IsRootWinner nodes winner → IsNumber (length nodes) → (text : IsTreeText (written_tree preamble nodes winner) nodes)
    × (text.preamble ≡ preamble)
written_with preamble nodes winner extent each root few = (
  record {
    preamble = preamble;
    winner = winner;
    lines = tree_lines preamble nodes winner;
    are = record { is_size = extent; each = each; root = root; count = few; same = refl };
    same = written_text preamble nodes winner;
  },
  refl,
)

pub written_is_text : (preamble : Preamble) (nodes : List Node) (winner : Colour) → IsExtent preamble.size.rows preamble.size.cols
    → All (NodeFits preamble) nodes
    → IsRootWinner nodes winner → IsNumber (length nodes) → IsTreeText (written_tree preamble nodes winner) nodes
written_is_text preamble nodes winner extent each root few = (written_with preamble nodes winner extent each root few).0

-- and it is read as what was written
pub read_back : (preamble : Preamble) (nodes read : List Node) (winner : Colour) → IsExtent preamble.size.rows preamble.size.cols
    → All (NodeFits preamble) nodes
    → IsRootWinner nodes winner → IsNumber (length nodes) → IsTreeText (written_tree preamble nodes winner) read → read ≡ nodes
read_back preamble nodes read winner extent each root few is =
    text_tells_nodes (written_tree preamble nodes winner) read nodes is (written_is_text preamble nodes winner extent each root few)
