-- The search begins without nodes, and there are as few empty cells as leave room for all. The last node is the root.
use Rattle.std.proofs.Common.{◌≢◌, ℕ, ◌≤◌, List, [], ◌∷◌, ◌++◌, length, ap, ◌∙◌, sym, arith, length-append}
use Rattle.hx_board.specs.declared.colours.Colour.{Colour}
use Rattle.hx_board.specs.Positions.{Board, IsBoard}
use Rattle.hx_board.specs.Counts.{empty_count}
use Rattle.hx_board.proofs.EmptyCells.{sweep_size-below, sweep_size-nine}
use Rattle.hx_tree.specs.declared.nodes.Node.{Node}
use Rattle.hx_sweep.specs.Growth.{IsBegun, IsProved}
use Rattle.hx_sweep.specs.Sweeps.{IsSweep}
use Rattle.hx_sweep.proofs.sweeps.sweep.Goals as goal

begun : (board : Board) → IsBoard board → empty_count board ≤ 9 → IsBegun board []
begun board valid few = record {
  valid = valid;
  right = λ k. tt;
  of_size = λ k d less. absurd (omega arith);
  by_moves = λ k d less. absurd (omega arith);
  room = omega (arith, sweep_size-below (empty_count board) 9 few, sweep_size-nine);
}

sweep_of : (board : Board) (mover winner : Colour) (nodes : List Node) (number : ℕ) → IsProved board mover winner [] nodes number
    → IsSweep board mover nodes
sweep_of board mover winner nodes number proved = record {
  valid = record { some = λ none. not_empty (sym none ∙ proved.last); right = proved.grown.right };
  root = proved.root;
  last = record { front = proved.front; same = proved.last };
  position = proved.heading.same_position;
  to_move = proved.heading.same_mover;
  few = rw proved.grown.same proved.grown.few;
  size = proved.grown.of_size;
  by_moves = proved.grown.by_moves;
}
  where
    not_empty : [] ≢ proved.front ++ proved.root ∷ []
    not_empty e = let counts = ap length e in absurd (omega (arith, length-append proved.front (proved.root ∷ [])))

pub prove-requires-clause-begun : goal.prove-requires-clause-begun
prove-requires-clause-begun c =
    rw (c.new-nodes.ensures.items, c.winner-won_by.ensures.kept) (begun c.args.position.now c.size-size.ensures.valid c.requires)

pub returns : goal.returns
returns c = sweep_of _ _ _ _ _ (rw (c.new-nodes.ensures.items, c.winner-won_by.ensures.kept) at c.in_ok-prove.ensures.proved)
