-- The trees that solve a position.
use Rattle.std.specs.Prelude.{◌≡◌, ◌≤◌, List, length}
use Rattle.hx_board.specs.declared.colours.Colour.{Colour}
use Rattle.hx_board.specs.Positions.{Board}
use Rattle.hx_tree.specs.declared.nodes.Node.{Node}
use Rattle.hx_tree.specs.Trees.{IsValidTree, IsRoot}
use Rattle.hx_book.specs.declared.books.TheConstants.{MOST_SLOTS}
use Rattle.hx_sweep.specs.Sweeps.{AreOfSize}

-- a valid tree with this board and mover at its root, of no more nodes than a book may have, all on boards of one size
pub record IsSolution (board : Board) (mover : Colour) (nodes : List Node) : Type 0 where
  pub valid : IsValidTree nodes
  pub root : Node
  pub last : IsRoot nodes root
  pub position : root.heading.position ≡ board
  pub to_move : root.heading.to_move ≡ mover
  pub few : length nodes ≤ MOST_SLOTS
  pub size : AreOfSize board.size nodes

-- the roots of two trees name the same winner
abbrev pub NameOneWinner : List Node → List Node → Type 0
NameOneWinner one other =
    (root last : Node) → IsRoot one root → IsRoot other last → root.heading.winner ≡ last.heading.winner
