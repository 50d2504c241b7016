-- Who is found to win by a tree.
use Rattle.std.specs.Prelude.{List, Option, None, Some}
use Rattle.hx_board.specs.declared.colours.Colour.{Colour}
use Rattle.hx_board.specs.Colours.{other_of}
use Rattle.hx_board.specs.Positions.{Board}
use Rattle.hx_board.specs.Game.{Wins}
use Rattle.hx_tree.specs.declared.nodes.Node.{Node}
use Rattle.hx_tree.specs.Trees.{IsValidTree, IsRoot}

-- the player wins the position with this mover, and the other player does not
pub record OnlyWins (player : Colour) (board : Board) (mover : Colour) : Type 0 where
  pub wins : Wins player board mover
  pub other_does_not : ¬ Wins (other_of player) board mover

-- the player alone wins the position of the root
abbrev pub OnlyWinsRoot : List Node → Colour → Type 0
OnlyWinsRoot nodes player =
    (root : Node) → IsRoot nodes root → OnlyWins player root.heading.position root.heading.to_move

-- the nodes are no tree, or this player alone wins the position of the root
abbrev pub TellsWinner : List Node → Option Colour → Type 0
TellsWinner nodes None = IsValidTree nodes → ⊥
TellsWinner nodes (Some player) = OnlyWinsRoot nodes player
