-- A book as contracts see it: its slots, and its nodes in the order in which they came. Each node is an entry, which
-- is found by its position and the player to move.
use Rattle.std.specs.Prelude.{◌≤◌, ℕ, List, length}
use Rattle.hx_tree.specs.declared.nodes.Node.{Node}
use Rattle.hx_tree.specs.Entries.{AreDistinctEntries}
use Rattle.hx_tree.specs.Trees.{AreRight}
use Rattle.hx_book.specs.declared.books.TheConstants.{MOST_SLOTS}

-- how many nodes it has room for, and those that it holds
pub record Contents : Type 0 where
  pub slots : ℕ
  pub nodes : List Node

abbrev pub contents : ℕ → List Node → Contents
contents slots nodes = record { slots = slots; nodes = nodes }

-- what is true of every book
pub record IsBook (book : Contents) : Type 0 where
  pub held : length book.nodes ≤ book.slots
  pub small : book.slots ≤ MOST_SLOTS
  pub right : AreRight book.nodes
  pub distinct : AreDistinctEntries book.nodes
