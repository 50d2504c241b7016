-- What is answered to a node that is put into a list with so many slots, and what the list then is.
use Rattle.std.specs.Prelude.{◌≡◌, ℕ, List, Result, Ok, Err}
use Rattle.hx_tree.specs.declared.nodes.Node.{Node}
use Rattle.hx_tree.specs.Entries.{Extends, IsStored, IsRefused}

-- a node that was refused, and how many nodes were held
pub record Refusal : Type 0 where
  pub held : ℕ
  pub node : Node

-- what each answer says of the list before and after: the node is there, or it was refused and is handed back
abbrev pub Puts : ℕ → List Node → Node → Result ℕ Refusal → List Node → Type 0
Puts slots old node (Ok place) new = IsStored slots old node place new
Puts slots old node (Err refusal) new = IsRefused slots old node refusal.held new × (refusal.node ≡ node)

-- others may have put in nodes after those that were seen, and then the node is put in
pub record PutsLater (slots : ℕ) (seen : List Node) (node : Node) (result : Result ℕ Refusal) (new : List Node)
    : Type 0 where
  pub before : List Node
  pub more : Extends seen before
  pub puts : Puts slots before node result new
