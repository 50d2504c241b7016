-- Fill steps one after the other, and when a node goes on from the board after them.
use Rattle.std.specs.Prelude.{◌≡◌, ◌≢◌, ℕ, List, [], ◌∷◌}
use Rattle.hx_board.specs.declared.colours.Colour.{Colour}
use Rattle.hx_board.specs.Positions.{Board}
use Rattle.hx_inferior.specs.declared.fills.FillStep.{FillStep}
use Rattle.hx_inferior.specs.Inferior.{MayFill, filled}
use Rattle.hx_tree.specs.declared.nodes.Heading.{Heading}
use Rattle.hx_tree.specs.Headings.{Leads}

-- each step may be done on the board after those before it
abbrev pub MayFillAll : Board → Colour → List FillStep → Type 0
MayFillAll board winner [] = Unit {0}
MayFillAll board winner (step ∷ steps) = MayFill board winner step × MayFillAll (filled board winner step) winner steps

-- the board after all the steps
abbrev pub filled_all : Board → Colour → List FillStep → Board
filled_all board winner [] = board
filled_all board winner (step ∷ steps) = filled_all (filled board winner step) winner steps

-- each step may be done on the board after those before it, and they lead from the one board to the other
pub record LeadTo (board : Board) (winner : Colour) (steps : List FillStep) (final : Board) : Type 0 where
  pub right : MayFillAll board winner steps
  pub same : filled_all board winner steps ≡ final

-- some steps may be done, and the winner wins the board after them, with the same player to move, by an earlier heading
pub record IsRightFill (before : List Heading) (heading : Heading) (steps : List FillStep) (child : ℕ) : Type 0 where
  pub some : steps ≢ []
  pub right : MayFillAll heading.position heading.winner steps
  pub leads : Leads before child (filled_all heading.position heading.winner steps) heading.to_move heading.winner
