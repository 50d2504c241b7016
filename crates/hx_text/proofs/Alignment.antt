-- A text that begins with the lines of some nodes goes on with those of further nodes and with its last line, since its
-- first nodes are these, one after the other.
use Rattle.std.proofs.Common.{◌≡◌, ℕ, List, [], ◌∷◌, ◌++◌, length, refl, sym, ap, ◌∙◌, subst, append_assoc}
use Rattle.std.specs.Prelude.{flat_map, All}
use Rattle.std.proofs.lemmas.List.Elements.{All-head, All-tail}
use Rattle.hx_board.specs.declared.colours.Colour.{Colour}
use Rattle.hx_board.specs.Cells.{Extent, IsExtent}
use Rattle.hx_tree.specs.declared.nodes.Node.{Node}
use Rattle.hx_text.specs.declared.versions.Preamble.{Preamble}
use Rattle.hx_text.specs.declared.versions.Version.{Version}
use Rattle.hx_lex.specs.Words.{IsNumber}
use Rattle.hx_text.specs.PositionTexts.{size_line}
use Rattle.hx_text.specs.TreeTexts.{AreTreeLinesOf, NodeFits, first_line, node_lines, title_line, front_lines, end_line}
use Rattle.hx_text.proofs.Injective.{size_injective}
use Rattle.hx_text.proofs.LineWords.{title_injective}
use Rattle.hx_text.proofs.NodeInjective.{node_cancel, first_not_end}

-- the nodes after these, and their lines
pub record GoesOn (preamble : Preamble) (nodes all : List Node) (rest : List (List ℕ)) (end : List ℕ) : Type 0 where
  pub more : List Node
  pub nodes_are : all ≡ nodes ++ more
  pub fits : All (NodeFits preamble) more
  pub rest_is : rest ≡ flat_map node_lines more ++ end ∷ []

goes_on_after : {preamble : Preamble} {nodes all : List Node} {rest : List (List ℕ)} {end : List ℕ} (a b : Node) → a ≡ b
    → GoesOn preamble nodes all rest end → GoesOn preamble (a ∷ nodes) (b ∷ all) rest end
goes_on_after {preamble} {nodes} {all} {rest} {end} a b e on = record {
  more = on.more;
  nodes_are = ap (λ (n : Node). n ∷ all) (sym e) ∙ ap (λ (ns : List Node). a ∷ ns) on.nodes_are;
  fits = on.fits;
  rest_is = on.rest_is;
}

pub nodes_cancel : (preamble : Preamble) (count : ℕ) (winner : Colour) (nodes all : List Node) (rest : List (List ℕ))
    → IsExtent preamble.size.rows preamble.size.cols → IsNumber count → All (NodeFits preamble) nodes → All (NodeFits preamble) all
    → flat_map node_lines nodes ++ rest ≡ flat_map node_lines all ++ end_line count winner ∷ []
    → GoesOn preamble nodes all rest (end_line count winner)
nodes_cancel preamble count winner [] all rest extent small fa fb e = record { more = all; nodes_are = refl; fits = fb; rest_is = e }
nodes_cancel preamble count winner (a ∷ nodes) [] rest extent small fa fb e =
    let first : first_line a ≡ end_line count winner = cc in
    absurd (first_not_end preamble a count winner extent (All-head (NodeFits preamble) a nodes fa) small first)
nodes_cancel preamble count winner (a ∷ nodes) (b ∷ all) rest extent small fa fb e =
    let parts = node_cancel preamble a b (flat_map node_lines nodes ++ rest)
    (flat_map node_lines all ++ end_line count winner ∷ []) extent
    (All-head (NodeFits preamble) a nodes fa) (All-head (NodeFits preamble) b all fb)
    (sym (append_assoc (node_lines a) (flat_map node_lines nodes) rest) ∙ e ∙ append_assoc (node_lines b)
    (flat_map node_lines all) (end_line count winner ∷ [])) in
    goes_on_after a b parts.0 (nodes_cancel preamble count winner nodes all rest extent small
    (All-tail (NodeFits preamble) a nodes fa) (All-tail (NodeFits preamble) b all fb) parts.1)

-- the text that begins so
pub record Aligned (first : Preamble) (nodes : List Node) (rest : List (List ℕ)) (preamble : Preamble) (all : List Node)
    (winner : Colour) : Type 0 where
  pub same : preamble ≡ first
  pub on : GoesOn first nodes all rest (end_line (length all) winner)

abbrev preamble_of : Version → Extent → Preamble
preamble_of version size = record { version = version; size = size }

same_preamble : (a b : Preamble) → a.version ≡ b.version → a.size ≡ b.size → a ≡ b
same_preamble a b v s = ap (λ (x : Version). preamble_of x a.size) v ∙ ap (λ (x : Extent). preamble_of b.version x) s

-- the two lines before the nodes tell the version and the size
pub preamble_injective : (a b : Preamble) → IsExtent a.size.rows a.size.cols → IsExtent b.size.rows b.size.cols
    → title_line a.version ≡ title_line b.version → size_line a.size ≡ size_line b.size → a ≡ b
preamble_injective a b extent_a extent_b titles sizes =
    same_preamble a b (title_injective a.version b.version titles) (size_injective a.size b.size extent_a extent_b sizes)

pub aligned : (first : Preamble) (nodes : List Node) (lines rest : List (List ℕ)) (preamble : Preamble) (all : List Node) (winner : Colour)
    → IsExtent first.size.rows first.size.cols → All (NodeFits first) nodes → lines ≡ front_lines first ++ flat_map node_lines nodes
    → AreTreeLinesOf preamble all winner (lines ++ rest) → Aligned first nodes rest preamble all winner
aligned first nodes lines rest preamble all winner is_size each lines_are are =
    let whole : front_lines first ++ flat_map node_lines nodes ++ rest ≡ front_lines preamble ++ flat_map node_lines all ++ end_line
    (length all) winner ∷ [] =
    ap (λ (ls : List (List ℕ)). ls ++ rest) (sym lines_are) ∙ are.same in
    let title : title_line first.version ≡ title_line preamble.version = cc in
    let second : size_line first.size ≡ size_line preamble.size = cc in
    let tails : flat_map node_lines nodes ++ rest ≡ flat_map node_lines all ++ end_line (length all) winner ∷ [] = cc in
    let same : preamble ≡ first = sym (preamble_injective first preamble is_size are.is_size title second) in
    record {
      same = same;
      on = nodes_cancel first (length all) winner nodes all rest is_size are.count each
          (subst (λ (p : Preamble). All (NodeFits p) all) same are.each) tails;
    }
