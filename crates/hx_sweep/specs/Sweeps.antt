-- The tree of a full search.
use Rattle.std.specs.Prelude.{◌≡◌, ◌≤◌, List, length}
use Rattle.std.specs.List.{All}
use Rattle.hx_board.specs.declared.colours.Colour.{Colour}
use Rattle.hx_board.specs.Cells.{Extent}
use Rattle.hx_board.specs.Positions.{Board}
use Rattle.hx_board.specs.Counts.{empty_count, sweep_size}
use Rattle.hx_tree.specs.declared.nodes.Node.{Node}
use Rattle.hx_tree.specs.Trees.{IsValidTree, IsRoot}
use Rattle.hx_sweep.specs.Moves.{AreByMoves}

-- each node is of a board of this size
abbrev pub AreOfSize : Extent → List Node → Type 0
AreOfSize size nodes = All (λ node. node.heading.position.size ≡ size) nodes

-- a valid tree by moves alone with this board and mover at its root, no larger than a full search of it can become, and
-- all of one size
pub record IsSweep (board : Board) (mover : Colour) (nodes : List Node) : Type 0 where
  pub valid : IsValidTree nodes
  pub root : Node
  pub last : IsRoot nodes root
  pub position : root.heading.position ≡ board
  pub to_move : root.heading.to_move ≡ mover
  pub few : length nodes ≤ sweep_size (empty_count board)
  pub size : AreOfSize board.size nodes
  pub by_moves : AreByMoves nodes
