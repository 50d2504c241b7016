-- The links that a player keeps: Full links on cells that are still empty, which share no cell. Once the ends of each
-- are joined, the player has a chain. They were made on an earlier board, the base.
--
-- Links are read once, on the base. On a later board the same steps may give none: an And over a cell on which the
-- player has a stone is no And over a cell, and an Or of which a part is broken is none. So a move is read off the
-- links of the base.
--
-- Where kept links lead (`lead`) is said of every later board. Nothing is said of a path of links, of their order or of
-- which end comes first; more stones keep the clause by themselves, and each rule of steps changes it in one lemma.
use Rattle.std.specs.Prelude.{◌≡◌, ◌≢◌, ◌≤◌, ◌⊎◌, ℕ, Bool, true, false, List, Contains, slice_get, slice_index_or}
use Rattle.std.specs.Prelude.{Option, IfSome}
use Rattle.std.specs.declared.option.Option.TheVariants.{Some, None}
use Rattle.hx_board.specs.declared.colours.Colour.{Colour}
use Rattle.hx_board.specs.Sets.{has, insert, union, ShareNone}
use Rattle.hx_board.specs.Cells.{Extent, OnBoard}
use Rattle.hx_board.specs.Positions.{Board, IsEmpty, stones_of, put}
use Rattle.hx_board.specs.Graph.{Joined, HasChain}
use Rattle.hx_link.specs.declared.links.Kind.TheVariants.{Full, Semi}
use Rattle.hx_link.specs.declared.links.Link.{Link}
use Rattle.hx_link.specs.declared.steps.Step.{Step}
use Rattle.hx_link.specs.declared.steps.Step.TheVariants.{Base, AndStone, AndCell, Or}

-- the later board has each of the player's stones on the earlier one
pub record HasStonesOf (player : Colour) (earlier later : Board) : Type 0 where
  pub same_size : later.size ≡ earlier.size
  pub own : (n : ℕ) → has (stones_of earlier player) n ≡ true → has (stones_of later player) n ≡ true

-- each cell of the set that was empty is empty still, but for the one that this stone is on
abbrev pub AreLeft : Board → Board → Option ℕ → ℕ → Type 0
AreLeft base board stone set = (n : ℕ) → has set n ≡ true → IsEmpty base n → stone ≢ Some n → IsEmpty board n

-- the place is marked
abbrev pub IsMarked : List Bool → ℕ → Type 0
IsMarked marks place = slice_index_or marks place false ≡ true

-- the link at a place that is marked
pub record IsKept (links : List Link) (marks : List Bool) (place : ℕ) (link : Link) : Type 0 where
  pub there : slice_get links place ≡ Some link
  pub marked : IsMarked marks place

-- the ends of each kept link are joined
abbrev pub AreJoined : Colour → List Link → List Bool → Board → Type 0
AreJoined player links marks board =
    (place : ℕ) (link : Link) → IsKept links marks place link → Joined board player link.a link.b

-- The marked links are kept, and besides them one that is due, if there is one. The stone is the opponent's last one,
-- where the player has not answered it yet.
pub record AreKept (base : Board) (player : Colour) (links : List Link) (marks : List Bool) (due : Option Link)
    (stone : Option ℕ) (board : Board) : Type 0 where
  pub stones : HasStonesOf player base board
  pub full : (place : ℕ) (link : Link) → IsKept links marks place link → link.kind ≡ Full
  pub left : (place : ℕ) (link : Link) → IsKept links marks place link → AreLeft base board stone link.carrier
  pub apart : (one other : ℕ) (first second : Link) → IsKept links marks one first → IsKept links marks other second
      → one ≢ other
      → ShareNone first.carrier second.carrier
  pub due_left : IfSome due (λ link. AreLeft base board stone link.carrier)
  pub due_apart : IfSome due (λ link. (place : ℕ) (other : Link) → IsKept links marks place other
      → ShareNone link.carrier other.carrier)
  pub lead : (later : Board) → HasStonesOf player board later → AreJoined player links marks later
      → IfSome due (λ link. Joined later player link.a link.b) → HasChain later player

-- ---- words for the functions inside the crate alone

-- whether the stone, if there is one, is on a cell of the set
abbrev pub touches : Option ℕ → ℕ → Bool
touches None set = false
touches (Some cell) set = has set cell

-- a step that unites links
abbrev pub IsOr : Step → Type 0
IsOr (Base a b) = ⊥
IsOr (AndStone left right) = ⊥
IsOr (AndCell left right) = ⊥
IsOr (Or parts) = Unit {0}

-- from a place on each marked step unites links
abbrev pub AreOrsFrom : List Step → List Bool → ℕ → Type 0
AreOrsFrom steps marks from =
    (place : ℕ) (step : Step) → slice_get steps place ≡ Some step → IsMarked marks place → from ≤ place → IsOr step

-- the links are kept, and from a place on each of them unites links
pub record ArePartedFrom (base : Board) (player : Colour) (steps : List Step) (links : List Link) (marks : List Bool)
    (stone : Option ℕ) (board : Board) (from : ℕ) : Type 0 where
  pub kept : AreKept base player links marks None stone board
  pub ors : AreOrsFrom steps marks from

-- a kept link that the stone touches, or one where it touches none
pub record IsChosen (links : List Link) (marks : List Bool) (stone : Option ℕ) (place : ℕ) : Type 0 where
  pub link : Link
  pub is_kept : IsKept links marks place link
  pub answers : (touches stone link.carrier ≡ true)
      ⊎ ((other : ℕ) (second : Link) → IsKept links marks other second → touches stone second.carrier ≡ false)

-- a part that the stone leaves alone
pub record IsSpared (links : List Link) (parts : List ℕ) (stone : Option ℕ) (place : ℕ) : Type 0 where
  pub named : Contains parts place
  pub link : Link
  pub there : slice_get links place ≡ Some link
  pub untouched : touches stone link.carrier ≡ false

-- a semi link is due, and it is at this place
pub record IsDueAt (base : Board) (player : Colour) (links : List Link) (marks : List Bool) (board : Board)
    (place : ℕ) : Type 0 where
  pub link : Link
  pub there : slice_get links place ≡ Some link
  pub semi : link.kind ≡ Semi
  pub kept : AreKept base player links marks (Some link) None board

-- the set is the two others and a cell of the board that is in neither
pub record IsOver (size : Extent) (whole first second cell : ℕ) : Type 0 where
  pub on_board : OnBoard size cell
  pub whole_is : whole ≡ insert (union first second) cell
  pub not_first : has first cell ≡ false
  pub not_second : has second cell ≡ false

-- the player moved to an empty cell, and keeps links again
pub record HasMoved (base : Board) (player : Colour) (links : List Link) (marks : List Bool) (before after : Board)
    (cell : ℕ) : Type 0 where
  pub empty : IsEmpty before cell
  pub moved : after ≡ put before player cell
  pub kept : AreKept base player links marks None None after
