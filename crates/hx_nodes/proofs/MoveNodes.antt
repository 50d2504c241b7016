-- A node by a move is right, where the position after it was found to be won.
use Rattle.std.proofs.Common.{◌≡◌, ℕ, List, refl}
use Rattle.hx_board.specs.declared.colours.Colour.{Colour}
use Rattle.hx_board.specs.Colours.{other_of}
use Rattle.hx_board.specs.Positions.{Board, IsBoard, IsEmpty, put}
use Rattle.hx_tree.specs.declared.entries.Found.{Found}
use Rattle.hx_tree.specs.declared.nodes.Node.{Node}
use Rattle.hx_tree.specs.declared.nodes.Rule.{Rule}
use Rattle.hx_tree.specs.declared.nodes.Rule.TheVariants.{Move}
use Rattle.hx_tree.specs.Entries.{IsFirstFound}
use Rattle.hx_tree.specs.Rules.{IsRightNode}
use Rattle.hx_tree.specs.Trees.{headings_of}
use Rattle.hx_nodes.proofs.FoundEntries.{found-heading}

abbrev pub node_of : Board → Colour → Colour → Rule → Node
node_of board mover winner rule = record { heading = record { position = board; to_move = mover; winner = winner }; rule = rule }

pub move_right : (nodes : List Node) (board : Board) (mover : Colour) (cell : ℕ) (found : Found) → IsBoard board → IsEmpty board cell
    → IsFirstFound nodes (put board mover cell) (other_of mover) found → found.winner ≡ mover
    → IsRightNode (headings_of nodes) (node_of board mover mover (Move cell found.index))
move_right nodes board mover cell found valid empty is same = record {
  board = valid;
  rule = record {
    mover = refl;
    empty = empty;
    leads = rw same at (found-heading nodes (put board mover cell) (other_of mover) found is);
  };
}
