-- Fronts of one list of nodes.
use Rattle.std.specs.Prelude.{List, length, nat_le, if◌then◌else◌}
use Rattle.hx_tree.specs.declared.nodes.Node.{Node}
use Rattle.hx_tree.specs.Entries.{Extends}

-- some list begins with either
pub record AreFronts (one other : List Node) : Type 0 where
  pub whole : List Node
  pub of_one : Extends one whole
  pub of_other : Extends other whole

-- the longer of two lists
abbrev pub longer : List Node → List Node → List Node
longer one other = if nat_le (length one) (length other) then other else one
