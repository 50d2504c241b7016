-- What a player's opponent must answer: the cells that all of the player's live links between the two sides share.
use Rattle.std.specs.Prelude.{◌≡◌, ℕ, ◌+◌, ◌≤◌, true, false, List, length, take, map, slice_get, ◌↔◌, Contains}
use Rattle.std.specs.List.{All}
use Rattle.std.specs.declared.option.Option.TheVariants.{Some}
use Rattle.hx_board.specs.declared.cells.TheConstants.{CELLS}
use Rattle.hx_board.specs.Sets.{has, IsSubset, count_below}
use Rattle.hx_board.specs.Positions.{IsEmpty}
use Rattle.hx_board.specs.declared.vertices.Vertex.TheVariants.{First, Last}
use Rattle.hx_board.specs.Colours.{other_of}
use Rattle.hx_link.specs.declared.links.Link.{Link}
use Rattle.hx_linkset.specs.States.{Standing}
use Rattle.hx_linkset.specs.LivePairs.{IsLivePair}
use Rattle.hx_tree.specs.declared.nodes.Line.{Line}
use Rattle.hx_fill.specs.declared.threats.Between.{Between}
use Rattle.hx_fill.specs.Unders.{AreUnder}

-- the carrier of the link at a place has the cell
abbrev pub HasCell : Standing → ℕ → ℕ → Type 0
HasCell set cell place = (link : Link) → slice_get set.present.links place ≡ Some link → has link.carrier cell ≡ true

-- an empty cell in the carriers of the links at these places
pub record IsShared (set : Standing) (places : List ℕ) (cell : ℕ) : Type 0 where
  pub empty : IsEmpty set.present.board cell
  pub in_each : (place : ℕ) → Contains places place → HasCell set cell place

-- an empty cell in the carriers of all live links between the player's sides, and so any empty cell where there is none
pub record IsSharedByAll (set : Standing) (cell : ℕ) : Type 0 where
  pub empty : IsEmpty set.present.board cell
  pub in_each : (place : ℕ) → IsLivePair set First Last place → HasCell set cell place

-- the link at a place lacks an empty cell that the links before it have
pub record TakesAway (set : Standing) (before : List ℕ) (place : ℕ) : Type 0 where
  pub cell : ℕ
  pub had : IsShared set before cell
  pub lacks : (link : Link) → slice_get set.present.links place ≡ Some link → has link.carrier cell ≡ false

-- each threat lacks an empty cell that all threats before it have
abbrev pub EachTakesAway : Standing → List ℕ → Type 0
EachTakesAway set threats = (k place : ℕ) → slice_get threats k ≡ Some place → TakesAway set (take k threats) place

-- the threats, the cells that they share, and lines for some of these
pub record IsMust (set : Standing) (threats : List ℕ) (cells : ℕ) (under : List Line) : Type 0 where
  pub live : All (IsLivePair set First Last) threats
  pub few : length threats ≤ CELLS
  pub each_takes : EachTakesAway set threats
  pub shared : (cell : ℕ) → (has cells cell ≡ true) ↔ IsSharedByAll set cell
  pub same : (cell : ℕ) → (has cells cell ≡ true) ↔ IsShared set threats cell
  pub under_lines : AreUnder set.present.board (other_of set.player) cells under

-- ---- words for the functions inside the crate alone

-- a live link between the sides, with its carrier
pub record IsBetween (set : Standing) (between : Between) : Type 0 where
  pub live : IsLivePair set First Last between.place
  pub carrier : (link : Link) → slice_get set.present.links between.place ≡ Some link → between.carrier ≡ link.carrier

-- the live links between the sides
pub record AreBetween (set : Standing) (links : List Between) : Type 0 where
  pub each : All (IsBetween set) links
  pub all : (place : ℕ) → IsLivePair set First Last place → Contains (map (λ link. link.place) links) place

-- live links between the sides, and what they share
pub record AreKept (set : Standing) (places : List ℕ) (cells : ℕ) : Type 0 where
  pub live : All (IsLivePair set First Last) places
  pub shared : (cell : ℕ) → (has cells cell ≡ true) ↔ IsShared set places cell
  pub few : length places + count_below 128 cells ≤ CELLS
  pub each_takes : EachTakesAway set places

-- after a look at a live link
pub record IsTaken (set : Standing) (place before : ℕ) (places : List ℕ) (cells : ℕ) : Type 0 where
  pub threats : AreKept set places cells
  pub less : IsSubset cells before
  pub inside : (cell : ℕ) → has cells cell ≡ true → HasCell set cell place

-- threats that share what all live links between the sides share
pub record AreAllTaken (set : Standing) (places : List ℕ) (cells : ℕ) : Type 0 where
  pub threats : AreKept set places cells
  pub shared_by_all : (cell : ℕ) → (has cells cell ≡ true) ↔ IsSharedByAll set cell
