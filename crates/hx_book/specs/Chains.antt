-- Chains of entries, for the functions inside the crate. Each entry has a bucket, by a key of the book's choice. The
-- entries of a bucket are chained: from its head to the newest of them, and from each to the next older one. A link
-- is 0 at the end of a chain, and else one more than the place of an entry. So it is one statement for heads and
-- entries that a link leads to the newest entry of a bucket below a bound.
use Rattle.std.specs.Prelude.{◌≡◌, ℕ, ◌+◌, ◌-◌, ◌<◌, ◌≤◌, List, [], ◌∷◌, ◌++◌, length, set, slice_get, slice_index}
use Rattle.std.specs.declared.option.Option.TheVariants.{Some}
use Rattle.hx_tree.specs.declared.nodes.Node.{Node}
use Rattle.hx_book.specs.declared.books.TheConstants.{MOST_BUCKETS}

-- for each bucket the link to its newest entry, for each entry the link to the next older one of its bucket, and how
-- many entries there is room for
pub record Links : Type 0 where
  pub heads : List ℕ
  pub next : List ℕ
  pub room : ℕ

abbrev pub links : List ℕ → List ℕ → ℕ → Links
links heads next room = record { heads = heads; next = next; room = room }

-- one more entry was linked in, as the newest of its bucket
pub record IsLinked (old : Links) (bucket : ℕ) (new : Links) : Type 0 where
  pub heads_set : new.heads ≡ set old.heads bucket (length old.next + 1)
  pub next_pushed : new.next ≡ old.next ++ slice_index old.heads bucket ∷ []
  pub same_room : new.room ≡ old.room

-- the entry at this place has this bucket
pub record IsIn (key : Node → ℕ) (nodes : List Node) (bucket place : ℕ) : Type 0 where
  pub node : Node
  pub there : slice_get nodes place ≡ Some node
  pub same_bucket : key node ≡ bucket

-- a link to the newest of the bucket's entries before a bound, or the end of the chain
pub record IsNewestBelow (key : Node → ℕ) (nodes : List Node) (bucket bound link : ℕ) : Type 0 where
  pub within : link ≤ bound
  pub is_in : 0 < link → IsIn key nodes bucket (link - 1)
  pub newest : (place : ℕ) → link ≤ place → place < bound → IsIn key nodes bucket place → ⊥

-- each chain has exactly the entries of its bucket, newest first; the key depends on how many buckets there are
pub record AreChains (key : ℕ → Node → ℕ) (nodes : List Node) (heads next : List ℕ) : Type 0 where
  pub long : length next ≡ length nodes
  pub some : 0 < length heads
  pub few : length heads ≤ MOST_BUCKETS
  pub heads_lead : (bucket : ℕ) → bucket < length heads
      → IsNewestBelow (key (length heads)) nodes bucket (length nodes) (slice_index heads bucket)
  pub next_lead : (bucket place : ℕ) → IsIn (key (length heads)) nodes bucket place
      → IsNewestBelow (key (length heads)) nodes bucket place (slice_index next place)
