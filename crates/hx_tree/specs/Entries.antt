-- A list of nodes as a book of proofs: each node is the entry of its position and the player to move. What a look finds
-- in it, and what a store does to it.
use Rattle.std.specs.Prelude.{◌≡◌, ◌<◌, ◌⊎◌, ℕ, List, [], ◌∷◌, ◌++◌, length, slice_get, Option, MatchOption}
use Rattle.std.specs.declared.option.Option.TheVariants.{Some}
use Rattle.hx_board.specs.declared.colours.Colour.{Colour}
use Rattle.hx_board.specs.Positions.{Board}
use Rattle.hx_tree.specs.declared.nodes.Node.{Node}
use Rattle.hx_tree.specs.declared.entries.Found.{Found}

-- a node of this position and mover
pub record IsOf (board : Board) (mover : Colour) (node : Node) : Type 0 where
  pub same_position : node.heading.position ≡ board
  pub same_mover : node.heading.to_move ≡ mover

-- the node at this place is of this position and mover
pub record IsEntry (nodes : List Node) (board : Board) (mover : Colour) (place : ℕ) : Type 0 where
  pub node : Node
  pub there : slice_get nodes place ≡ Some node
  pub is_of : IsOf board mover node

-- no node is of this position and mover
abbrev pub HasNoEntry : List Node → Board → Colour → Type 0
HasNoEntry nodes board mover = (place : ℕ) → IsEntry nodes board mover place → ⊥

-- no two nodes are of one position and mover
abbrev pub AreDistinctEntries : List Node → Type 0
AreDistinctEntries nodes =
    (board : Board) (mover : Colour) (one other : ℕ) → IsEntry nodes board mover one
    → IsEntry nodes board mover other → one ≡ other

-- the new list begins with the old one
abbrev pub Extends : List Node → List Node → Type 0
Extends old new = (rest : List Node) × (new ≡ old ++ rest)

-- some list is one of which the fact holds, and begins with the old one, and the new one begins with it
pub record WasSeen (Fact : List Node → Type 0) (old new : List Node) : Type 0 where
  pub seen : List Node
  pub after_old : Extends old seen
  pub before_new : Extends seen new
  pub fact : Fact seen

-- ---- a look

-- the first of the entries of this position and mover
pub record IsFirstEntry (nodes : List Node) (board : Board) (mover : Colour) (place : ℕ) : Type 0 where
  pub entry : IsEntry nodes board mover place
  pub first : (earlier : ℕ) → earlier < place → IsEntry nodes board mover earlier → ⊥

-- what was found is the first entry, and has its winner
pub record IsFirstFound (nodes : List Node) (board : Board) (mover : Colour) (found : Found) : Type 0 where
  pub first : IsFirstEntry nodes board mover found.index
  pub same_winner : found.winner ≡ first.entry.node.heading.winner

-- the first entry of this position and mover was found, or nothing, where there is none
abbrev pub FindsFirst : List Node → Board → Colour → Option Found → Type 0
FindsFirst nodes board mover result =
    MatchOption result (HasNoEntry nodes board mover) (IsFirstFound nodes board mover)

-- ---- a store, in a list that has so many slots

-- the node's position and mover have a first entry, at the answered place, and the list stays as it is
pub record IsThere (old : List Node) (node : Node) (place : ℕ) (new : List Node) : Type 0 where
  pub first : IsFirstEntry old node.heading.position node.heading.to_move place
  pub same : new ≡ old

-- they have none, and the node comes to the end, which is the answered place
pub record IsAdded (slots : ℕ) (old : List Node) (node : Node) (place : ℕ) (new : List Node) : Type 0 where
  pub none : HasNoEntry old node.heading.position node.heading.to_move
  pub room : length old < slots
  pub last : place ≡ length old
  pub grown : new ≡ old ++ node ∷ []

-- the node is there or was added
abbrev pub IsStored : ℕ → List Node → Node → ℕ → List Node → Type 0
IsStored slots old node place new = IsThere old node place new ⊎ IsAdded slots old node place new

-- they have none, each slot is taken, how many that are is answered, and the list stays as it is
pub record IsRefused (slots : ℕ) (old : List Node) (node : Node) (held : ℕ) (new : List Node) : Type 0 where
  pub none : HasNoEntry old node.heading.position node.heading.to_move
  pub full : length old ≡ slots
  pub same_held : held ≡ length old
  pub same : new ≡ old
