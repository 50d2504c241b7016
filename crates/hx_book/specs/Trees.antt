-- The tree of an entry: the nodes that it needs, in their order, with new numbers for their children.
use Rattle.std.specs.Prelude.{◌≡◌, ◌≤◌, ◌<◌, ℕ, List, [], ◌∷◌, map, length, slice_get}
use Rattle.std.specs.declared.option.Option.TheVariants.{Some}
use Rattle.hx_board.specs.Lists.{StandsIn}
use Rattle.hx_tree.specs.declared.nodes.Line.{Line}
use Rattle.hx_tree.specs.declared.nodes.Line.TheVariants.{Child, Under}
use Rattle.hx_tree.specs.declared.nodes.Node.{Node}
use Rattle.hx_tree.specs.declared.nodes.Rule.{Rule}
use Rattle.hx_tree.specs.declared.nodes.Rule.TheVariants.{Chain, Links, Move, All, Fill, Turned}
use Rattle.hx_tree.specs.Trees.{headings_of, IsValidTree, IsRoot}

-- a line names the place as that of its child
abbrev pub NamesChild : Line → ℕ → Type 0
NamesChild (Child cell child) place = place ≡ child
NamesChild (Under cell better kill) place = ⊥

-- some line names the place as that of its child
pub record HasLine (lines : List Line) (place : ℕ) : Type 0 where
  pub k : ℕ
  pub line : Line
  pub there : slice_get lines k ≡ Some line
  pub names : NamesChild line place

-- a rule names the place as that of a child
abbrev pub Names : Rule → ℕ → Type 0
Names Chain place = ⊥
Names (Links steps) place = ⊥
Names (Move cell child) place = place ≡ child
Names (All steps threats lines) place = HasLine lines place
Names (Fill steps child) place = place ≡ child
Names (Turned child) place = place ≡ child

-- the node at a place names another place as that of a child
pub record HasChildAt (nodes : List Node) (place child : ℕ) : Type 0 where
  pub node : Node
  pub there : slice_get nodes place ≡ Some node
  pub names : Names node.rule child

-- each place of the path is a child of the one before it, from the first place to the last
abbrev pub LeadsTo : List Node → ℕ → List ℕ → ℕ → Type 0
LeadsTo nodes first [] last = first ≡ last
LeadsTo nodes first (next ∷ path) last = HasChildAt nodes first next × LeadsTo nodes next path last

-- the root is at the place itself or is above it
abbrev pub IsNeeded : List Node → ℕ → ℕ → Type 0
IsNeeded nodes root place = (path : List ℕ) × LeadsTo nodes root path place

-- ---- new numbers for children

-- the line with its child renamed
abbrev pub renamed_line : (ℕ → ℕ) → Line → Line
renamed_line name (Child cell child) = Child cell (name child)
renamed_line name (Under cell better kill) = Under cell better kill

-- the rule with its children renamed
abbrev pub renamed_rule : (ℕ → ℕ) → Rule → Rule
renamed_rule name Chain = Chain
renamed_rule name (Links steps) = Links steps
renamed_rule name (Move cell child) = Move cell (name child)
renamed_rule name (All steps threats lines) = All steps threats (map (renamed_line name) lines)
renamed_rule name (Fill steps child) = Fill steps (name child)
renamed_rule name (Turned child) = Turned (name child)

abbrev pub renamed_node : (ℕ → ℕ) → Node → Node
renamed_node name node = record { heading = node.heading; rule = renamed_rule name node.rule }

-- ---- the tree

-- the nodes of the tree are those at these places, which the root needs, in rising order. Each has its children
-- renamed, and the new number of a place is where its node stands in the tree.
pub record AreNeeded (nodes : List Node) (root : ℕ) (tree : List Node) (places : List ℕ) (name : ℕ → ℕ) : Type 0 where
  pub as_many : length places ≡ length tree
  pub needed : (k place : ℕ) → slice_get places k ≡ Some place → IsNeeded nodes root place
  pub in_order : (j k one other : ℕ) → j < k → slice_get places j ≡ Some one → slice_get places k ≡ Some other
      → one < other
  pub renamed : (k place : ℕ) → slice_get places k ≡ Some place → name place ≡ k
  pub same_node : (k place : ℕ) (node : Node) → slice_get places k ≡ Some place → slice_get nodes place ≡ Some node
      → slice_get tree k ≡ Some (renamed_node name node)

-- a valid tree of exactly the nodes that the node at this place needs, with new numbers for their children; its root
-- has the heading of this node, and all are on boards of one size
pub record IsTreeOf (nodes : List Node) (place : ℕ) (tree : List Node) : Type 0 where
  pub valid : IsValidTree tree
  pub few : length tree ≤ length nodes
  pub root : Node
  pub is_root : IsRoot tree root
  pub same_heading : slice_get (headings_of nodes) place ≡ Some root.heading
  pub places : List ℕ
  pub name : ℕ → ℕ
  pub needed : AreNeeded nodes place tree places name
  pub each : (other : ℕ) → IsNeeded nodes place other → StandsIn places other
  pub one_size : (k : ℕ) (node : Node) → slice_get tree k ≡ Some node
      → node.heading.position.size ≡ root.heading.position.size
