-- The text of a tree of plain nodes is of the first version, since none of them is turned.
use Rattle.std.proofs.Common.{◌≡◌, ◌↔◌, ℕ, List, Option, None, Some, refl, subst}
use Rattle.std.specs.Prelude.{slice_get, IsSomeAnd}
use Rattle.hx_tree.specs.declared.nodes.Node.{Node}
use Rattle.hx_tree.specs.Plain.{IsPlainRule, IsPlain, ArePlain}
use Rattle.hx_text.specs.declared.versions.Version.{Version}
use Rattle.hx_text.specs.declared.versions.Version.TheVariants.{One, Two}
use Rattle.hx_text.specs.Versions.{IsTurnedNode, HasTurned}
use Rattle.hx_pool.proofs.LaterLists.{all-get}

plain_not_turned : (node : Node) → IsPlain node → IsTurnedNode node → ⊥
plain_not_turned node plain turned = subst IsPlainRule turned.1 plain

one_of_versions : (version : Version) → (version ≡ Two → ⊥) → version ≡ One
one_of_versions One other = refl
one_of_versions Two other = absurd (other refl)

not_turned_at : (nodes : List Node) (place : ℕ) (found : Option Node) → ArePlain nodes → slice_get nodes place ≡ found
    → IsSomeAnd found IsTurnedNode → ⊥
not_turned_at nodes place None plain there turned = turned
not_turned_at nodes place (Some node) plain there turned =
    plain_not_turned node (all-get IsPlain nodes place node plain there) turned

none_turned : (nodes : List Node) → ArePlain nodes → HasTurned nodes → ⊥
none_turned nodes plain turned = not_turned_at nodes turned.0 (slice_get nodes turned.0) plain refl turned.1

pub plain_first_version : (version : Version) (nodes : List Node) → (version ≡ Two) ↔ HasTurned nodes → ArePlain nodes
    → version ≡ One
plain_first_version version nodes has plain = one_of_versions version (λ two. none_turned nodes plain (has.0 two))
