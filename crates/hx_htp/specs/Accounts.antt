-- What an answerer may tell, and what it has told so far.
use Rattle.std.specs.Prelude.{◌≡◌, ◌⊎◌, ℕ, ◌≤◌}
use Rattle.hx_io.specs.Causes.{Rose}
use Rattle.hx_board.specs.declared.colours.Colour.{Colour}
use Rattle.hx_board.specs.Positions.{Board}
use Rattle.hx_board.specs.Counts.{IsSmall}
use Rattle.hx_board.specs.Game.{Wins}
use Rattle.hx_htp.specs.declared.answerers.Told.{Told}
use Rattle.hx_htp.specs.declared.answerers.Told.TheVariants.{Winner, Budget, Slots}

-- the units and the slots of each question, and how often it was told that the one and the other were used up
pub record Account : Type 0 where
  pub budget : ℕ
  pub slots : ℕ
  pub budgets : ℕ
  pub proofs : ℕ

-- budget and slots stay, and no count falls
pub record Continues (before after : Account) : Type 0 where
  pub budget : after.budget ≡ before.budget
  pub slots : after.slots ≡ before.slots
  pub budgets : before.budgets ≤ after.budgets
  pub proofs : before.proofs ≤ after.proofs

-- one of the two counts rose
abbrev pub SomeRose : Account → Account → Type 0
SomeRose before after = Rose before.budgets after.budgets ⊎ Rose before.proofs after.proofs

-- some question was left open between these two, and the position is not small
pub record LeavesOpen (before after : Account) (board : Board) : Type 0 where
  pub rose : SomeRose before after
  pub large : ¬ IsSmall board before.budget

-- what may be told of a position and its mover
abbrev pub MayTell : Account → Account → Board → Colour → Told → Type 0
MayTell before after board mover (Winner player) = Wins player board mover
MayTell before after board mover (Budget n) =
    (n ≡ before.budget) × Rose before.budgets after.budgets × ¬ IsSmall board before.budget
MayTell before after board mover (Slots n) =
    (n ≡ before.slots) × Rose before.proofs after.proofs × ¬ IsSmall board before.budget
