-- What a list of proofs is to whoever goes by it, and how it goes on: others may store theirs in it at any time.
use Rattle.std.specs.Prelude.{◌≡◌, ℕ, List, Option}
use Rattle.atomic_table.specs.Seated.{TableId}
use Rattle.hx_tree.specs.declared.nodes.Node.{Node}
use Rattle.hx_tree.specs.Entries.{Extends}

-- the nodes that were seen of it, how many it has room for, and the name of the shared object that it stands over,
-- where it tells it
pub record Sight : Type 0 where
  pub list : List Node
  pub slots : ℕ
  pub over : Option TableId

-- the room and the object stay, and what is seen begins with what was seen
pub record Grows (before after : Sight) : Type 0 where
  pub slots : after.slots ≡ before.slots
  pub over : after.over ≡ before.over
  pub seen : Extends before.list after.list
