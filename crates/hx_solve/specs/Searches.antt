-- What a search of one position comes to.
use Rattle.std.specs.Prelude.{◌≡◌, ◌<◌, ◌≤◌, ℕ, List, length, slice_get, Result, Ok, Err}
use Rattle.std.specs.declared.option.Option.TheVariants.{Some, None}
use Rattle.hx_board.specs.declared.colours.Colour.{Colour}
use Rattle.hx_board.specs.Positions.{Board}
use Rattle.hx_board.specs.Graph.{HasNoChain}
use Rattle.hx_tree.specs.declared.entries.Found.{Found}
use Rattle.hx_tree.specs.declared.nodes.Node.{Node}
use Rattle.hx_tree.specs.Entries.{IsFirstFound}
use Rattle.hx_tree.specs.Trees.{headings_of, IsValidTree, IsRoot}
use Rattle.hx_book.specs.declared.books.TheConstants.{MOST_SLOTS}
use Rattle.hx_book.specs.Entries.{Contents}
use Rattle.hx_book.specs.Sights.{Sight}
use Rattle.hx_limits.specs.declared.ran_out.RanOut.{RanOut}
use Rattle.hx_limits.specs.declared.ran_out.RanOut.TheVariants.{Memory}
use Rattle.hx_limits.specs.declared.settings.Settings.{Settings}
use Rattle.hx_pool.specs.declared.searches.Searched.{Searched}
use Rattle.hx_pool.specs.Searches.{IsSearchEnd}

-- the nodes have this first entry of the position and mover
abbrev pub IsProofOf : Board → Colour → List Node → Found → Type 0
IsProofOf board mover nodes found = IsFirstFound nodes board mover found

-- the end of one worker's search over a plain book
abbrev pub IsSearchedAlone : Board → Colour → Settings → Searched Contents Found → Type 0
IsSearchedAlone board mover settings searched =
    IsSearchEnd (IsProofOf board mover) (HasNoChain board) settings searched.book searched.totals.granted searched.end

-- a book as whoever goes by a list of proofs sees it
abbrev pub sight_of : Contents → Sight
sight_of book = record { list = book.nodes; slots = book.slots; over = None }

-- where something was found, the list has its place
abbrev pub HasEntryFor : List Node → Result Found RanOut → Type 0
HasEntryFor nodes (Ok found) = found.index < length nodes
HasEntryFor nodes (Err why) = Unit {0}

-- a valid tree whose root has the heading of the node at this place, of no more nodes than a book may have, all on
-- boards of one size
pub record IsTreeFor (nodes : List Node) (place : ℕ) (tree : List Node) : Type 0 where
  pub valid : IsValidTree tree
  pub few : length tree ≤ MOST_SLOTS
  pub root : Node
  pub is_root : IsRoot tree root
  pub same_heading : slice_get (headings_of nodes) place ≡ Some root.heading
  pub one_size : (k : ℕ) (node : Node) → slice_get tree k ≡ Some node
      → node.heading.position.size ≡ root.heading.position.size

-- something was found, and this is a tree for its entry
abbrev pub IsTreeFrom : List Node → Result Found RanOut → List Node → Type 0
IsTreeFrom nodes (Ok found) tree = IsTreeFor nodes found.index tree
IsTreeFrom nodes (Err why) tree = ⊥

-- what ran out is what the end says, or memory for the tree of a proof
abbrev pub SaysWhy : Result Found RanOut → RanOut → Type 0
SaysWhy (Ok found) why = why ≡ Memory
SaysWhy (Err ran_out) why = why ≡ ran_out
