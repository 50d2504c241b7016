-- The tree of a solved position is within the limits of a text.
use Rattle.std.proofs.Common.{◌≡◌, ℕ, ◌≤◌, Bool, true, List, length, sym, subst, arith}
use Rattle.std.specs.List.{All}
use Rattle.hx_board.specs.declared.colours.Colour.{Colour}
use Rattle.hx_board.specs.Positions.{Board}
use Rattle.hx_tree.specs.declared.nodes.Node.{Node}
use Rattle.hx_tree.specs.Plain.{ArePlain}
use Rattle.hx_tree.specs.Trees.{IsRoot}
use Rattle.hx_text.specs.declared.versions.Version.{Version}
use Rattle.hx_text.specs.TreeTexts.{NodeFits, ListsFit}
use Rattle.hx_text.specs.Lengths.{most_nodes}
use Rattle.hx_text.proofs.ValidTrees.{right_nodes_fit, each_lists_fit}
use Rattle.hx_solve.specs.Solutions.{IsSolution}
use Rattle.hx_cmd_solve.specs.declared.solutions.Solution.{Solution}
use Rattle.hx_cmd_solve.specs.Positions.{IsPositionText}
use Rattle.hx_cmd_solve.specs.Answers.{IsSolved, IsVersionOf}

few_nodes : (board : Board) (mover : Colour) (nodes : List Node) → IsSolution board mover nodes → length nodes ≤ most_nodes
few_nodes board mover nodes is = omega (arith, is.few)

solution_fits : (version : Version) (board : Board) (mover : Colour) (nodes : List Node) → IsSolution board mover nodes
    → IsVersionOf version nodes → All (NodeFits (record { version = version; size = board.size })) nodes
solution_fits version board mover nodes is has =
    right_nodes_fit (record { version = version; size = board.size }) nodes is.valid.right (few_nodes board mover nodes is) is.size has.1

solution_lists_fit : (version : Version) (board : Board) (mover : Colour) (nodes : List Node) → IsSolution board mover nodes
    → IsVersionOf version nodes → All (λ node. ListsFit node.rule) nodes
solution_lists_fit version board mover nodes is has =
    each_lists_fit (record { version = version; size = board.size }) nodes (solution_fits version board mover nodes is has)

is_solved : (plain_tree : Bool) (input : List ℕ) (board : Board) (mover : Colour) (solution : Solution)
    → IsPositionText input board mover
    → IsSolution board mover solution.nodes.items → (plain_tree ≡ true → ArePlain solution.nodes.items)
    → solution.size ≡ board.size → IsVersionOf solution.version solution.nodes.items
    → ((root : Node) → IsRoot solution.nodes.items root → solution.winner ≡ root.heading.winner)
    → IsSolved plain_tree input solution
is_solved plain_tree input board mover solution text tree plain size version winner = record {
  board = board;
  mover = mover;
  text = text;
  tree = tree;
  plain = plain;
  size = size;
  version = version;
  fits = rw size (solution_fits solution.version board mover solution.nodes.items tree version);
  winner = winner tree.root tree.last;
}

-- ---- of a solution that is made of some nodes

pub solution_found : (plain_tree : Bool) (input : List ℕ) (board : Board) (mover : Colour) (nodes : List Node)
    (solution : Solution) → IsPositionText input board mover
    → IsSolution board mover nodes → (plain_tree ≡ true → ArePlain nodes) → solution.nodes.items ≡ nodes
    → solution.size ≡ board.size → IsVersionOf solution.version nodes
    → ((root : Node) → IsRoot nodes root → solution.winner ≡ root.heading.winner) → IsSolved plain_tree input solution
solution_found plain_tree input board mover nodes solution text tree plain same size version winner =
    is_solved plain_tree input board mover solution text (subst (IsSolution board mover) (sym same) tree)
    (λ is. subst ArePlain (sym same) (plain is)) size
    (subst (IsVersionOf solution.version) (sym same) version)
    (subst (λ (ns : List Node). (root : Node) → IsRoot ns root → solution.winner ≡ root.heading.winner) (sym same) winner)

pub solution_written : (board : Board) (mover : Colour) (nodes : List Node) (solution : Solution) → IsSolution board mover nodes
    → solution.nodes.items ≡ nodes → IsVersionOf solution.version nodes
    → (length solution.nodes.items ≤ most_nodes) × All (λ node. ListsFit node.rule) solution.nodes.items
solution_written board mover nodes solution tree same version =
    subst (λ (ns : List Node). (length ns ≤ most_nodes) × All (λ node. ListsFit node.rule) ns) (sym same)
    (few_nodes board mover nodes tree, solution_lists_fit solution.version board mover nodes tree version)
