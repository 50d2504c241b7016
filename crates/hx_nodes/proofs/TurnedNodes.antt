-- A node by the turned position is right, where an entry of that was found.
use Rattle.std.proofs.Common.{List, refl}
use Rattle.hx_board.specs.declared.colours.Colour.{Colour}
use Rattle.hx_board.specs.Positions.{Board, IsBoard}
use Rattle.hx_tree.specs.declared.entries.Found.{Found}
use Rattle.hx_tree.specs.declared.nodes.Node.{Node}
use Rattle.hx_tree.specs.declared.nodes.Rule.TheVariants.{Turned}
use Rattle.hx_tree.specs.Rules.{IsRightNode}
use Rattle.hx_tree.specs.Trees.{headings_of}
use Rattle.hx_book.specs.EitherEntry.{IsTurnedFound}
use Rattle.hx_nodes.proofs.FoundEntries.{found-heading}
use Rattle.hx_nodes.proofs.MoveNodes.{node_of}

pub turned_right : (old nodes : List Node) (board : Board) (mover : Colour) (found : Found) → IsBoard board
    → IsTurnedFound old nodes board mover found
    → IsRightNode (headings_of nodes) (node_of board mover found.winner (Turned found.index))
turned_right old nodes board mover found valid is = record {
  board = valid;
  rule = rw (found-heading nodes is.turned mover found is.first)
      (record { turned = is.is_turned; same_mover = refl; same_winner = refl });
}
