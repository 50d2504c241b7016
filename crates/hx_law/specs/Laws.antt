-- The laws of chains and of wins.
use Rattle.std.specs.Prelude.{ℕ, ◌⊎◌}
use Rattle.hx_board.specs.declared.colours.Colour.{Colour}
use Rattle.hx_board.specs.declared.colours.Colour.TheVariants.{Black, White}
use Rattle.hx_board.specs.Colours.{other_of}
use Rattle.hx_board.specs.Positions.{Board, put}
use Rattle.hx_board.specs.Graph.{HasChain}
use Rattle.hx_board.specs.Game.{Wins}

-- not both players have a chain
abbrev pub NeverBoth : Board → Type 0
NeverBoth board = ¬ (HasChain board Black × HasChain board White)

-- one of the players has a chain
abbrev pub AlwaysOne : Board → Type 0
AlwaysOne board = HasChain board Black ⊎ HasChain board White

-- the player has a chain, and the opponent has none
pub record HasOnlyChain (board : Board) (player : Colour) : Type 0 where
  pub chain : HasChain board player
  pub no_other : ¬ HasChain board (other_of player)

-- a further stone of the player keeps a win
abbrev pub ExtraStone : Board → Colour → Colour → ℕ → Type 0
ExtraStone board mover player cell = Wins player board mover → Wins player (put board player cell) mover

-- who wins with the opponent to move wins with the move
abbrev pub ExtraMove : Board → Colour → Type 0
ExtraMove board player = Wins player board (other_of player) → Wins player board player

-- exactly one player wins
pub record OneWinner (board : Board) (mover : Colour) : Type 0 where
  pub some : Wins Black board mover ⊎ Wins White board mover
  pub not_both : ¬ (Wins Black board mover × Wins White board mover)
