-- An entry of a position serves it. So what is stored at the position itself serves it too.
use Rattle.std.proofs.Common.{Bool, true, false, List, refl, ap, subst, Result, Ok, Err, IfOk}
use Rattle.hx_board.specs.declared.colours.Colour.{Colour}
use Rattle.hx_board.specs.Colours.{other_of}
use Rattle.hx_board.specs.Positions.{Board, stones_of}
use Rattle.hx_board.specs.Sets.{IsSubset}
use Rattle.hx_tree.specs.declared.nodes.Node.{Node}
use Rattle.hx_tree.specs.Entries.{IsOf}
use Rattle.hx_book.specs.WiderEntry.{Serves}
use Rattle.hx_nodes.specs.Stored.{HasEntry, IsStored}
use Rattle.hx_widen.specs.Wide.{IsServed, IsServedIf}
use Rattle.hx_nodes.specs.declared.stored.Stored.{Stored}
use Rattle.hx_nodes.specs.declared.stored.Stored.TheVariants.{Done, Missing}
use Rattle.hx_limits.specs.declared.ran_out.RanOut.{RanOut}

module _ (plain : Bool) (list : List Node) (board : Board) (mover : Colour) where
  serves-own : (kind : Bool) (node : Node) → IsOf board mover node → Serves kind node.heading board mover node.heading.winner
  serves-own true node is = record { same_position = is.same_position; same_mover = is.same_mover; same_winner = refl }
  serves-own false node is = record {
    same_size = ap (λ (b : Board). b.size) is.same_position;
    same_mover = is.same_mover;
    same_winner = refl;
    same_stones = ap (λ (b : Board). stones_of b node.heading.winner) is.same_position;
    has_opponents = subst
        (λ (b : Board). IsSubset (stones_of b (other_of node.heading.winner))
        (stones_of node.heading.position (other_of node.heading.winner))) is.same_position (λ n member. member);
  }

  pub entry_served : HasEntry list board mover → IsServed plain list board mover
  entry_served has = record {
    winner = has.1.node.heading.winner;
    place = has.0;
    entry = record { node = has.1.node; there = has.1.there; is_wider = serves-own plain has.1.node has.1.is_of };
  }

  pub served-by-entry : (stored : Stored) → IsStored list board mover stored → IsServedIf plain list board mover stored
  served-by-entry Done is = entry_served is
  served-by-entry Missing is = tt

  pub if_ok-served : (result : Result Stored RanOut) → IfOk result (IsStored list board mover)
      → IfOk result (IsServedIf plain list board mover)
  if_ok-served (Ok stored) is = served-by-entry stored is
  if_ok-served (Err why) is = tt

  pub if_ok-entry_served : {A : Type 0} → (result : Result A RanOut) → IfOk result (λ _. HasEntry list board mover)
      → IfOk result (λ _. IsServed plain list board mover)
  if_ok-entry_served (Ok answer) has = entry_served has
  if_ok-entry_served (Err why) has = tt
