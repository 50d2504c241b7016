-- A derivation: of the steps of a list those that some of its links need, as one list of their own.
use Rattle.std.specs.Prelude.{◌≡◌, ℕ, suc, ◌<◌, ◌≤◌, List, [], map, length, slice_get, slice_index}
use Rattle.std.specs.declared.option.Option.TheVariants.{Some}
use Rattle.hx_board.specs.declared.colours.Colour.{Colour}
use Rattle.hx_board.specs.Lists.{StandsIn}
use Rattle.hx_board.specs.Positions.{Board}
use Rattle.hx_link.specs.declared.links.Link.{Link}
use Rattle.hx_link.specs.declared.steps.Step.{Step}
use Rattle.hx_link.specs.declared.steps.Step.TheVariants.{Base, AndStone, AndCell, Or}
use Rattle.hx_link.specs.Steps.{AreRightSteps}
use Rattle.hx_linkset.specs.States.{State, IsLiveAt, Names}
use Rattle.hx_linkset.specs.Marks.{IsMarked}

-- right steps of their own, no more than there are links, and for each named link the place of a step that gives it; of
-- one named link alone the last step gives it
pub record IsDerived (board : Board) (player : Colour) (held : List Link) (named : List ℕ) (steps : List Step)
    (places : List ℕ) : Type 0 where
  pub links : List Link
  pub right : AreRightSteps board player [] steps links
  pub few : length steps ≤ length held
  pub places_of : length places ≡ length named
  pub gives : (k place new : ℕ) → slice_get named k ≡ Some place → slice_get places k ≡ Some new
      → slice_get links new ≡ slice_get held place
  pub last : length named ≡ 1 → (new : ℕ) → slice_get places 0 ≡ Some new → suc new ≡ length steps

-- ---- words for the functions inside the crate alone

-- the step with each place renamed
abbrev pub renamed : (ℕ → ℕ) → Step → Step
renamed name (Base a b) = Base a b
renamed name (AndStone left right) = AndStone (name left) (name right)
renamed name (AndCell left right) = AndCell (name left) (name right)
renamed name (Or parts) = Or (map name parts)

-- marked links are live, and so from the bound on are those that their steps name
pub record AreClosedFrom (player : Colour) (state : State) (bound : ℕ) (marks : List ℕ) : Type 0 where
  pub long : length marks ≡ length state.links
  pub live : (place : ℕ) → IsMarked marks place → IsLiveAt state.board player state.links place
  pub closed : (place : ℕ) (step : Step) → bound ≤ place → IsMarked marks place
      → slice_get state.steps place ≡ Some step
      → (part : ℕ) → Names step part → IsMarked marks part

-- each named place is marked, and no place above all of them is
pub record AreMarkedUnder (named marks : List ℕ) : Type 0 where
  pub each : (place : ℕ) → StandsIn named place → IsMarked marks place
  pub under : (place : ℕ) → IsMarked marks place → (top : ℕ) × (StandsIn named top × (place ≤ top))

-- the steps of the marked links below the bound, renamed: they are right, and give these links in their order, each at
-- its new name
pub record AreKeptBelow (player : Colour) (state : State) (marks : List ℕ) (bound : ℕ) (steps : List Step)
    (names : List ℕ) : Type 0 where
  pub links : List Link
  pub right : AreRightSteps state.board player [] steps links
  pub steps_of : length links ≡ length steps
  pub inside : bound ≤ length state.links
  pub few : length steps ≤ bound
  pub named : length names ≡ length state.links
  pub gives : (place : ℕ) → IsMarked marks place → place < bound
      → slice_get links (slice_index names place) ≡ slice_get state.links place
  pub last : (place : ℕ) → IsMarked marks place → place < bound
      → ((other : ℕ) → IsMarked marks other → other < bound → other ≤ place)
      → suc (slice_index names place) ≡ length steps
