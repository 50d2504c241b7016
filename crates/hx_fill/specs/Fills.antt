-- Fill-in: steps that are right for their own players, and what they lead to.
use Rattle.std.specs.Prelude.{◌≡◌, ℕ, List, [], ◌∷◌, ◌++◌, All}
use Rattle.hx_board.specs.declared.colours.Colour.{Colour}
use Rattle.hx_board.specs.declared.colours.Colour.TheVariants.{Black, White}
use Rattle.hx_board.specs.Positions.{Board}
use Rattle.hx_inferior.specs.declared.fills.FillStep.{FillStep}
use Rattle.hx_inferior.specs.declared.fills.FillStep.TheVariants.{Other, Dead, Pair}
use Rattle.hx_inferior.specs.Inferior.{IsDead, IsPair, MayFill, filled}
use Rattle.hx_fill.specs.declared.fills.Fill.{Fill}

-- a step that puts stones of its own player alone
abbrev pub IsDeadOrPair : FillStep → Type 0
IsDeadOrPair (Other cell) = ⊥
IsDeadOrPair (Dead cell) = Unit {0}
IsDeadOrPair (Pair a b) = Unit {0}

-- steps that put stones of their own players alone
abbrev pub AreDeadOrPairs : List Fill → Type 0
AreDeadOrPairs fills = All (λ fill. IsDeadOrPair fill.step) fills

-- each step is right for its own player on the board where it is done, and together they lead from one board to another
abbrev pub FillsTo : Board → List Fill → Board → Type 0
FillsTo board [] final = board ≡ final
FillsTo board (fill ∷ rest) final =
    MayFill board fill.colour fill.step × FillsTo (filled board fill.colour fill.step) rest final

-- no cell is dead for the player, and no two are a pair
pub record HasNone (board : Board) (player : Colour) : Type 0 where
  pub none_dead : (cell : ℕ) → IsDead board player cell → ⊥
  pub no_pair : (a b : ℕ) → IsPair board player a b → ⊥

-- for neither player a cell is dead or two are a pair
abbrev pub NothingLeft : Board → Type 0
NothingLeft board = (player : Colour) → HasNone board player

-- the steps of fill-in, from a board to the one after them
pub record IsFillIn (board : Board) (fills : List Fill) (final : Board) : Type 0 where
  pub dead_or_pairs : AreDeadOrPairs fills
  pub right : FillsTo board fills final

-- the stones of a step as stones of the winner's opponent, one by one
abbrev pub single_stones : FillStep → List FillStep
single_stones (Other cell) = []
single_stones (Dead cell) = Other cell ∷ []
single_stones (Pair a b) = Other a ∷ Other b ∷ []

-- a player's step as steps for the winner
abbrev pub winner_steps : Colour → Colour → FillStep → List FillStep
winner_steps Black Black step = step ∷ []
winner_steps Black White step = single_stones step
winner_steps White Black step = single_stones step
winner_steps White White step = step ∷ []

-- the steps of some fills as steps for the winner
abbrev pub winner_steps_all : Colour → List Fill → List FillStep
winner_steps_all winner [] = []
winner_steps_all winner (fill ∷ rest) = winner_steps winner fill.colour fill.step ++ winner_steps_all winner rest
