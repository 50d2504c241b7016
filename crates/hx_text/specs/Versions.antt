-- What sets the versions of a tree's text apart: a node that stands on an earlier one at the turned position.
use Rattle.std.specs.Prelude.{◌≡◌, ℕ, List, codes, slice_get, IsSomeAnd}
use Rattle.hx_tree.specs.declared.nodes.Node.{Node}
use Rattle.hx_tree.specs.declared.nodes.Rule.TheVariants.{Turned}
use Rattle.hx_text.specs.declared.versions.Version.{Version}
use Rattle.hx_text.specs.declared.versions.Version.TheVariants.{One, Two}

abbrev pub version_word : Version → List ℕ
version_word One = codes "1"
version_word Two = codes "2"

-- the node's rule is that of a turned node
abbrev pub IsTurnedNode : Node → Type 0
IsTurnedNode node = (child : ℕ) × (node.rule ≡ Turned child)

-- some node is turned
abbrev pub HasTurned : List Node → Type 0
HasTurned nodes = (place : ℕ) × IsSomeAnd (slice_get nodes place) IsTurnedNode
