-- Lists of nodes to which the nodes of a proof are added.
use Rattle.std.specs.Prelude.{◌≡◌, ℕ, ◌+◌, ◌^◌, ◌≤◌, List, [], ◌∷◌, ◌++◌, length}
use Rattle.hx_board.specs.declared.colours.Colour.{Colour}
use Rattle.hx_board.specs.Cells.{Extent}
use Rattle.hx_board.specs.Positions.{Board, IsBoard}
use Rattle.hx_board.specs.Counts.{empty_count, sweep_size}
use Rattle.hx_tree.specs.declared.nodes.Node.{Node}
use Rattle.hx_tree.specs.Headings.{IsHeading}
use Rattle.hx_tree.specs.Trees.{AreRight}
use Rattle.hx_sweep.specs.Moves.{AreByMoves}
use Rattle.hx_sweep.specs.Sweeps.{AreOfSize}

-- right nodes by moves alone, to which those of a proof for this board can be added: each number of a node has 32
-- binary digits at the most
pub record IsBegun (board : Board) (nodes : List Node) : Type 0 where
  pub valid : IsBoard board
  pub right : AreRight nodes
  pub of_size : AreOfSize board.size nodes
  pub by_moves : AreByMoves nodes
  pub room : length nodes + sweep_size (empty_count board) ≤ 2 ^ 32

-- right nodes by moves alone that were added to a list, so many at the most
pub record HasMoreNodes (size : Extent) (limit : ℕ) (before after : List Node) : Type 0 where
  pub more : List Node
  pub same : after ≡ before ++ more
  pub few : length more ≤ limit
  pub right : AreRight after
  pub of_size : AreOfSize size after
  pub by_moves : AreByMoves after

-- right nodes that were added, the last of which has this number and says that the winner wins the board with this
-- mover
pub record IsProved (board : Board) (mover winner : Colour) (before after : List Node) (number : ℕ) : Type 0 where
  pub grown : HasMoreNodes board.size (sweep_size (empty_count board)) before after
  pub front : List Node
  pub root : Node
  pub last : after ≡ front ++ root ∷ []
  pub place : number ≡ length front
  pub heading : IsHeading board mover winner root.heading
