-- The live links of two ends, and the walk that finds them: along two rings at once, at each step in the one whose node
-- is lower.
use Rattle.std.specs.Prelude.{◌≡◌, ℕ, zero, suc, ◌-◌, Bool, true, false, nat_lt, List, [], ◌∷◌, All, Contains}
use Rattle.std.specs.Prelude.{slice_get, slice_index}
use Rattle.std.specs.List.Sorted.{IsStrictlyIncreasing}
use Rattle.std.specs.declared.option.Option.{Option}
use Rattle.std.specs.declared.option.Option.TheVariants.{None, Some}
use Rattle.hx_board.specs.declared.vertices.Vertex.{Vertex}
use Rattle.hx_link.specs.declared.links.Kind.{Kind}
use Rattle.hx_link.specs.declared.links.Kind.TheVariants.{Full, Semi}
use Rattle.hx_link.specs.declared.links.Link.{Link}
use Rattle.hx_link.specs.Steps.{HasEnds}
use Rattle.hx_linkset.specs.declared.chains.TheConstants.{FIRST_NODE}
use Rattle.hx_linkset.specs.States.{Standing, IsLive}

-- at this place is a live link of these ends, in either order
abbrev pub IsLivePair : Standing → Vertex → Vertex → ℕ → Type 0
IsLivePair set a b place =
    (link : Link) × ((slice_get set.present.links place ≡ Some link)
    × (IsLive set.present.board set.player link × HasEnds link a b))

-- the places of the live links of these ends, each once, in rising order
pub record AreLivePairs (set : Standing) (a b : Vertex) (places : List ℕ) : Type 0 where
  pub rising : IsStrictlyIncreasing places
  pub each : All (IsLivePair set a b) places
  pub all : (place : ℕ) → IsLivePair set a b place → Contains places place

-- ---- words for the functions inside the crate alone

-- whether each of two nodes is a head, and whether the first is below the second, say which one is next
abbrev pub lower_by : Bool → Bool → Bool → Option Kind
lower_by true true lower = None
lower_by false true lower = Some Full
lower_by true false lower = Some Semi
lower_by false false true = Some Full
lower_by false false false = Some Semi

-- the kind whose node is next
abbrev pub lower_of : ℕ → ℕ → Option Kind
lower_of full semi = lower_by (nat_lt full FIRST_NODE) (nat_lt semi FIRST_NODE) (nat_lt full semi)

abbrev pub from_lower : Option Kind → ℕ → List ℕ → ℕ → List ℕ → List ℕ
from_lower None full after_full semi after_semi = []
from_lower (Some Full) full after_full semi after_semi = full ∷ after_full
from_lower (Some Semi) full after_full semi after_semi = semi ∷ after_semi

-- the places of the links from two nodes on, of which so many are left at the most
unfoldable pub pairs_from : List ℕ → ℕ → ℕ → ℕ → List ℕ
pairs_from next zero full semi = []
pairs_from next (suc left) full semi =
    from_lower (lower_of full semi)
    (full - FIRST_NODE) (pairs_from next left (slice_index next full) semi)
    (semi - FIRST_NODE) (pairs_from next left full (slice_index next semi))
