-- A node by fill steps is right, where the position that they leave was found to be won.
use Rattle.std.proofs.Common.{◌≡◌, ◌≢◌, List, [], sym, subst}
use Rattle.hx_board.specs.declared.colours.Colour.{Colour}
use Rattle.hx_board.specs.Positions.{Board, IsBoard}
use Rattle.hx_inferior.specs.declared.fills.FillStep.{FillStep}
use Rattle.hx_tree.specs.declared.entries.Found.{Found}
use Rattle.hx_tree.specs.declared.nodes.Node.{Node}
use Rattle.hx_tree.specs.declared.nodes.Rule.TheVariants.{Fill}
use Rattle.hx_tree.specs.Entries.{IsFirstFound}
use Rattle.hx_tree.specs.Fills.{MayFillAll, filled_all}
use Rattle.hx_tree.specs.Headings.{Leads}
use Rattle.hx_tree.specs.Rules.{IsRightNode}
use Rattle.hx_tree.specs.Trees.{headings_of}
use Rattle.hx_nodes.proofs.FoundEntries.{found-heading}
use Rattle.hx_nodes.proofs.MoveNodes.{node_of}

pub fill_right : (nodes : List Node) (board final : Board) (mover : Colour) (found : Found) (steps : List FillStep) → IsBoard board
    → IsFirstFound nodes final mover found
    → steps ≢ [] → MayFillAll board found.winner steps × (filled_all board found.winner steps ≡ final)
    → IsRightNode (headings_of nodes) (node_of board mover found.winner (Fill steps found.index))
fill_right nodes board final mover found steps valid is some right = record {
  board = valid;
  rule = record {
    some = some;
    right = right.0;
    leads = subst (λ (b : Board). Leads (headings_of nodes) found.index b mover found.winner) (sym right.1)
        (found-heading nodes final mover found is);
  };
}
