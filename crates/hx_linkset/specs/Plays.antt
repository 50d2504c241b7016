-- The plays that stand, each told by how the set stood before it, and the states before them. These
-- words are for the functions inside the crate alone.
use Rattle.std.specs.Prelude.{◌≡◌, ◌≢◌, ℕ, ◌+◌, ◌≤◌, ◌==◌, if◌then◌else◌, List, [], ◌∷◌, length, take, reverse}
use Rattle.hx_board.specs.declared.cells.TheConstants.{CELLS}
use Rattle.hx_board.specs.declared.colours.Colour.{Colour}
use Rattle.hx_board.specs.Positions.{Board}
use Rattle.hx_board.specs.Counts.{empty_count}
use Rattle.hx_linkset.specs.declared.plays.Stage.{Stage}
use Rattle.hx_linkset.specs.declared.limits.TheConstants.{MOST_LINKS}
use Rattle.hx_linkset.specs.States.{State, Standing, IsRight, CanPut, put_all}

-- the second board is the first one with some stones more
pub record HasMore (before after : Board) : Type 0 where
  pub stones : List (Colour × ℕ)
  pub some : stones ≢ []
  pub can : CanPut before stones
  pub after_is : after ≡ put_all before stones

-- the state before a play: its position, without the links that came since
abbrev pub undone : State → Stage → State
undone state play = record {
  board = play.position;
  links = take play.count state.links;
  steps = take play.count state.steps;
}

-- the states before the plays, the last play first
abbrev pub past_of : State → List Stage → List State
past_of state [] = []
past_of state (play ∷ plays) = undone state play ∷ past_of (undone state play) plays

-- the state is right, and can be undone, play by play, to states that are right
abbrev pub Stands : Colour → State → List Stage → Type 0
Stands player state [] = IsRight player state
Stands player state (play ∷ plays) =
    IsRight player state
    × ((play.count ≤ length state.links) × Stands player (undone state play) plays)

-- each play filled an empty cell, so there are no more plays and empty cells than a board has cells
abbrev pub HasRoom : Board → List Stage → Type 0
HasRoom board [] = empty_count board ≤ CELLS
HasRoom board (play ∷ plays) =
    (length plays + 1 + empty_count board ≤ CELLS) × HasRoom play.position plays

-- the plays lead to the state, which is right as those before them were, and there is room for more
pub record Keeps (player : Colour) (state : State) (plays : List Stage) : Type 0 where
  pub stands : Stands player state (reverse plays)
  pub room : HasRoom state.board (reverse plays)
  pub few : length state.links ≤ MOST_LINKS

-- how the set stood before the last plays, the last one first: those before which there were as
-- many links as now
abbrev pub stage_before : Stage → List Stage → Stage
stage_before now [] = now
stage_before now (play ∷ plays) = if play.count == now.count then stage_before play plays else now

-- what contracts see of a player, a state and the plays that led to it, of which the last one is at the end
abbrev pub standing : Colour → State → List Stage → Standing
standing player state plays = record { player = player; present = state; past = past_of state (reverse plays) }
