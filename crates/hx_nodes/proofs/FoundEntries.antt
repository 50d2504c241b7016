-- What a look finds is a heading with the winner that was found.
use Rattle.std.proofs.Common.{List, sym, ap, ◌∙◌, Some}
use Rattle.hx_board.specs.declared.colours.Colour.{Colour}
use Rattle.hx_board.specs.Positions.{Board}
use Rattle.hx_board.proofs.ListLaws.{get-map}
use Rattle.hx_tree.specs.declared.entries.Found.{Found}
use Rattle.hx_tree.specs.declared.nodes.Node.{Node}
use Rattle.hx_tree.specs.Headings.{Leads}
use Rattle.hx_tree.proofs.HeadingLaws.{same_heading}
use Rattle.hx_tree.specs.Entries.{IsFirstFound}
use Rattle.hx_tree.specs.Trees.{headings_of}

pub found-heading : (nodes : List Node) (board : Board) (mover : Colour) (found : Found) → IsFirstFound nodes board mover found
    → Leads (headings_of nodes) found.index board mover found.winner
found-heading nodes board mover found is =
    get-map (λ (n : Node). n.heading) nodes found.index is.first.entry.node is.first.entry.there
    ∙ ap Some (same_heading board mover found.winner is.first.entry.node.heading (record {
      same_position = is.first.entry.is_of.same_position;
      same_mover = is.first.entry.is_of.same_mover;
      same_winner = sym is.same_winner;
    }))
