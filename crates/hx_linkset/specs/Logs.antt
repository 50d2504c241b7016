-- The log of the links that the plays dropped, and beside it a word for each block of links. These words are for the
-- functions inside the crate alone.
use Rattle.std.specs.Prelude.{◌≡◌, ℕ, ◌+◌, ◌*◌, ◌<◌, ◌≤◌, not, nat_eq, List, length, slice_index}
use Rattle.std.specs.List.{list_any, IsDistinct}
use Rattle.hx_board.specs.Sets.{has}
use Rattle.hx_linkset.specs.declared.blocks.TheConstants.{BLOCK, MOST_BLOCKS}
use Rattle.hx_linkset.specs.declared.limits.TheConstants.{MOST_LINKS}
use Rattle.hx_linkset.specs.Held.{IsIn}

-- these are the numbers of those places of a block that are not on the log
abbrev pub AreOthers : List ℕ → ℕ → ℕ → Type 0
AreOthers places block numbers =
    (number : ℕ) → number < BLOCK → has numbers number ≡ not (list_any (nat_eq (BLOCK * block + number)) places)

-- each place is on the log once, there is room for all places that a set has, and the words tell which are not on it
pub record IsLog (places words : List ℕ) (capacity : ℕ) : Type 0 where
  pub room : MOST_LINKS ≤ capacity
  pub small : (place : ℕ) → IsIn places place → place < MOST_LINKS
  pub distinct : IsDistinct nat_eq places
  pub long : length words ≡ MOST_BLOCKS
  pub others : (block : ℕ) → block < MOST_BLOCKS → AreOthers places block (slice_index words block)
