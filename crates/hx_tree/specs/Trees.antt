-- When a list of nodes is a valid tree.
use Rattle.std.specs.Prelude.{◌≡◌, ◌≢◌, ℕ, ◌<◌, List, [], ◌∷◌, ◌++◌, map, take, length, slice_get, IfSome}
use Rattle.hx_tree.specs.declared.nodes.Heading.{Heading}
use Rattle.hx_tree.specs.declared.nodes.Node.{Node}
use Rattle.hx_tree.specs.declared.trees.Verdict.{Verdict}
use Rattle.hx_tree.specs.declared.trees.Verdict.TheVariants.{Yes, Node as Wrong, Empty}
use Rattle.hx_tree.specs.Rules.{IsRightNode}

-- the headings of the nodes, in their order
abbrev pub headings_of : List Node → List Heading
headings_of nodes = map (λ (node : Node). node.heading) nodes

-- the node at this place, if there is one, is right after the headings before it
abbrev pub IsRightNodeAt : List Node → ℕ → Type 0
IsRightNodeAt nodes k = IfSome (slice_get nodes k) (IsRightNode (headings_of (take k nodes)))

-- each node is right after the headings before it
abbrev pub AreRight : List Node → Type 0
AreRight nodes = (k : ℕ) → IsRightNodeAt nodes k

-- a list with some node, in which each node is right after the headings before it
pub record IsValidTree (nodes : List Node) : Type 0 where
  pub some : nodes ≢ []
  pub right : AreRight nodes

-- the root of a tree is its last node
pub record IsRoot (nodes : List Node) (root : Node) : Type 0 where
  pub front : List Node
  pub same : nodes ≡ front ++ root ∷ []

-- the first node that is not right
pub record IsLeastWrong (nodes : List Node) (k : ℕ) : Type 0 where
  pub within : k < length nodes
  pub wrong : ¬ IsRightNodeAt nodes k
  pub before : (j : ℕ) → j < k → IsRightNodeAt nodes j

-- what each verdict says
abbrev pub IsVerdict : List Node → Verdict → Type 0
IsVerdict nodes Yes = IsValidTree nodes
IsVerdict nodes (Wrong k) = IsLeastWrong nodes k
IsVerdict nodes Empty = nodes ≡ []
