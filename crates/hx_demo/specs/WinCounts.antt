-- How many positions of a list a player wins, by the game tree alone.
--
-- It is a relation of the list and the number, since no program that decides who wins stands in a contract. `one_count`
-- says that it is one number.
use Rattle.std.specs.Prelude.{ℕ, suc, List, [], ◌∷◌}
use Rattle.hx_board.specs.declared.colours.Colour.{Colour}
use Rattle.hx_board.specs.declared.colours.Colour.TheVariants.{Black}
use Rattle.hx_board.specs.Positions.{Board}
use Rattle.hx_board.specs.Game.{Wins}

-- of these positions the player wins so many with Black to move
pub data WinsSoMany (player : Colour) : List Board → ℕ → Type 0 where
  Empty : WinsSoMany player [] 0
  Won : (board : Board) (boards : List Board) (count : ℕ)
      → Wins player board Black → WinsSoMany player boards count
      → WinsSoMany player (board ∷ boards) (suc count)
  Lost : (board : Board) (boards : List Board) (count : ℕ)
      → ¬ Wins player board Black → WinsSoMany player boards count
      → WinsSoMany player (board ∷ boards) count
