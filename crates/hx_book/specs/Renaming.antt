-- Marks on the nodes that a root needs, and those that were kept so far, for the functions inside the crate.
use Rattle.std.specs.Prelude.{◌≡◌, ◌≤◌, ◌<◌, ◌+◌, ℕ, Bool, true, false, ◌⊎◌}
use Rattle.std.specs.Prelude.{List, [], ◌∷◌, ◌++◌, length, set, slice_get, slice_index, slice_index_or}
use Rattle.std.specs.declared.option.Option.TheVariants.{Some}
use Rattle.hx_board.specs.Lists.{StandsIn}
use Rattle.hx_tree.specs.declared.nodes.Node.{Node}
use Rattle.hx_tree.specs.Trees.{headings_of, AreRight}
use Rattle.hx_book.specs.Trees.{HasChildAt, IsNeeded, renamed_node, AreNeeded}

abbrev pub IsMarked : List Bool → ℕ → Type 0
IsMarked marks place = slice_index_or marks place false ≡ true

-- so many places, none of them marked
pub record AreUnmarked (count : ℕ) (marks : List Bool) : Type 0 where
  pub long : length marks ≡ count
  pub none : (place : ℕ) → IsMarked marks place → ⊥

-- the places that have the property are marked too, and no others
pub record MarksMore (Has : ℕ → Type 0) (old new : List Bool) : Type 0 where
  pub long : length new ≡ length old
  pub stay : (place : ℕ) → IsMarked old place → IsMarked new place
  pub each : (place : ℕ) → Has place → IsMarked new place
  pub only : (place : ℕ) → IsMarked new place → IsMarked old place ⊎ Has place

-- the root is marked, marked places are needed for it and not above it, and the children of those from the bound on
-- are marked
pub record AreMarkedFrom (nodes : List Node) (root bound : ℕ) (marks : List Bool) : Type 0 where
  pub long : length marks ≡ length nodes
  pub root_marked : IsMarked marks root
  pub under : (place : ℕ) → IsMarked marks place → place ≤ root
  pub needed : (place : ℕ) → IsMarked marks place → IsNeeded nodes root place
  pub closed : (place child : ℕ) → bound ≤ place → IsMarked marks place → HasChildAt nodes place child
      → IsMarked marks child

-- what is left of the nodes from a place on
abbrev pub IsRest : List Node → ℕ → List Node → Type 0
IsRest nodes place rest = (k : ℕ) → slice_get nodes (place + k) ≡ slice_get rest k

-- the node of this place was added, renamed, and its place has the next new number
pub record IsKept (kept : List Node) (names : List ℕ) (place : ℕ) (node : Node) (more : List Node) (new_names : List ℕ)
    : Type 0 where
  pub grown : more ≡ kept ++ renamed_node (λ (child : ℕ). slice_index names child) node ∷ []
  pub named : new_names ≡ set names place (length kept)

-- the root, once it was reached, is the last of the nodes that were kept
pub record EndsInRoot (nodes : List Node) (root : ℕ) (kept : List Node) : Type 0 where
  pub front : List Node
  pub last : Node
  pub same : kept ≡ front ++ last ∷ []
  pub same_heading : slice_get (headings_of nodes) root ≡ Some last.heading

-- the marked nodes below the bound, renamed: they are right, and each stands at its new name
pub record AreKeptBelow
    (nodes : List Node) (root : ℕ) (marks : List Bool) (bound : ℕ) (kept : List Node) (names : List ℕ) : Type 0 where
  pub right : AreRight kept
  pub few : length kept ≤ bound
  pub inside : bound ≤ length nodes
  pub named : length names ≡ length nodes
  pub gives : (place : ℕ) → IsMarked marks place → place < bound
      → slice_get (headings_of kept) (slice_index names place) ≡ slice_get (headings_of nodes) place
  pub places : List ℕ
  pub needed : AreNeeded nodes root kept places (λ (place : ℕ). slice_index names place)
  pub each : (place : ℕ) → IsMarked marks place → place < bound → StandsIn places place
  pub below : (k place : ℕ) → slice_get places k ≡ Some place → place < bound
  pub last : root < bound → EndsInRoot nodes root kept
