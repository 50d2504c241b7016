-- That the winner a heading names does win.
use Rattle.std.specs.Prelude.{ℕ, List, slice_get, IfSome}
use Rattle.hx_board.specs.Colours.{other_of}
use Rattle.hx_board.specs.Game.{Wins}
use Rattle.hx_tree.specs.declared.nodes.Heading.{Heading}
use Rattle.hx_tree.specs.declared.nodes.Node.{Node}

-- the heading's winner wins in the game tree
abbrev pub HeadingWins : Heading → Type 0
HeadingWins heading = Wins heading.winner heading.position heading.to_move

-- the heading's winner wins, and the other player does not
pub record OnlyWinner (heading : Heading) : Type 0 where
  pub wins : Wins heading.winner heading.position heading.to_move
  pub other_does_not : ¬ Wins (other_of heading.winner) heading.position heading.to_move

-- the winner of each node wins, and the other player does not
abbrev pub AllWin : List Node → Type 0
AllWin nodes = (k : ℕ) → IfSome (slice_get nodes k) (λ node. OnlyWinner node.heading)
