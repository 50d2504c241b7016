-- The rings of the links that a set holds, and the log of those that are out of their rings. The first nodes are the
-- heads, one for each kind and pair of ends; then comes a node for each link, in the order of the links. These words
-- are for the functions inside the crate alone.
use Rattle.std.specs.Prelude.{◌≡◌, ℕ, ◌+◌, ◌-◌, ◌*◌, ◌<◌, ◌≤◌, List, [], ◌∷◌, ◌++◌, length, reverse, slice_get}
use Rattle.std.specs.Prelude.{slice_index, nat_lt, nat_eq, if◌then◌else◌, true, ◌⊎◌}
use Rattle.std.specs.List.{list_any, IsDistinct}
use Rattle.std.specs.declared.option.Option.{Option}
use Rattle.std.specs.declared.option.Option.TheVariants.{None, Some}
use Rattle.hx_board.specs.declared.colours.Colour.{Colour}
use Rattle.hx_board.specs.declared.vertices.Vertex.{Vertex}
use Rattle.hx_board.specs.declared.vertices.TheConstants.{VERTICES}
use Rattle.hx_board.specs.Positions.{Board}
use Rattle.hx_board.specs.VertexSets.{code_of, IsSomeVertex}
use Rattle.hx_link.specs.declared.links.Kind.{Kind}
use Rattle.hx_link.specs.declared.links.Kind.TheVariants.{Full, Semi}
use Rattle.hx_link.specs.declared.links.Link.{Link}
use Rattle.hx_linkset.specs.declared.chains.TheConstants.{KIND_HEADS, FIRST_NODE}
use Rattle.hx_linkset.specs.States.{IsLive, IsLiveAt}
use Rattle.hx_linkset.specs.Rings.{AreRings, Rings, relinked, IsInside}

-- each place of a list has its own number
pub record LeadToThemselves (size : ℕ) (nodes : List ℕ) : Type 0 where
  pub long : length nodes ≡ size
  pub each : (node : ℕ) → node < size → slice_index nodes node ≡ node

-- heads alone, each of an empty ring
pub record AreHeads (rings : Rings) : Type 0 where
  pub next : LeadToThemselves FIRST_NODE rings.next
  pub previous : LeadToThemselves FIRST_NODE rings.previous

-- how many heads come before those of a kind
abbrev pub kind_code : Kind → ℕ
kind_code Full = 0
kind_code Semi = KIND_HEADS

-- the head of the links of one kind and pair of ends
abbrev pub head_for : Kind → Vertex → Vertex → ℕ
head_for kind a b = kind_code kind + VERTICES * code_of a + code_of b

-- two vertices, the lower one first
pub record AreLowAndHigh (a b low high : Vertex) : Type 0 where
  pub order : code_of low ≤ code_of high
  pub same : ((low ≡ a) × (high ≡ b)) ⊎ ((low ≡ b) × (high ≡ a))

-- the head of the links of one kind and two ends, which are given in either order
pub record IsHeadBetween (kind : Kind) (a b : Vertex) (head : ℕ) : Type 0 where
  pub low : Vertex
  pub high : Vertex
  pub in_order : AreLowAndHigh a b low high
  pub low_some : IsSomeVertex low
  pub high_some : IsSomeVertex high
  pub head_is : head ≡ head_for kind low high

-- the head of a link's ring
abbrev pub head_of : Link → ℕ
head_of link = head_for link.kind link.a link.b

abbrev pub head_or : Option Link → ℕ → ℕ
head_or None node = node
head_or (Some link) node = head_of link

-- the head of a node's ring: of a head itself, of another node that of its link
unfoldable pub head_at : List Link → ℕ → ℕ
head_at links node = if nat_lt node FIRST_NODE then node else head_or (slice_get links (node - FIRST_NODE)) node

-- a head, or the node of a link that has this property at its place
abbrev pub IsLinked : List Link → (ℕ → Link → Type 0) → ℕ → Type 0
IsLinked links Has node =
    (node < FIRST_NODE)
    ⊎ ((place : ℕ) × ((link : Link)
    × ((node ≡ FIRST_NODE + place) × ((slice_get links place ≡ Some link) × Has place link))))

-- the rings hold exactly the links that have the property
pub record RingsHold (links : List Link) (Has : ℕ → Link → Type 0) (rings : Rings) : Type 0 where
  pub rings_ok : AreRings (head_at links) (λ node. slice_index rings.next node)
      (λ node. slice_index rings.previous node) (IsLinked links Has)
  pub next_long : length rings.next ≡ FIRST_NODE + length links
  pub previous_long : length rings.previous ≡ FIRST_NODE + length links

-- the link at a place lacks the property
pub record IsOut (links : List Link) (Has : ℕ → Link → Type 0) (place : ℕ) : Type 0 where
  pub inside : place < length links
  pub lacks : (link : Link) → slice_get links place ≡ Some link → Has place link → ⊥

-- the log names links that lack the property, each once
pub record LogHolds (links : List Link) (Has : ℕ → Link → Type 0) (log : List ℕ) : Type 0 where
  pub distinct : IsDistinct nat_eq log
  pub out : (place : ℕ) → list_any (nat_eq place) log ≡ true → IsOut links Has place

-- the nodes of these places put back, the first of the list first
abbrev pub relinked_all : Rings → List ℕ → Rings
relinked_all rings [] = rings
relinked_all rings (place ∷ places) = relinked_all (relinked rings (FIRST_NODE + place)) places

-- and each of them can be put back once those before it are back
abbrev pub CanRelink : Rings → List ℕ → Type 0
CanRelink rings [] = Unit {0}
CanRelink rings (place ∷ places) =
    IsInside rings (FIRST_NODE + place) × CanRelink (relinked rings (FIRST_NODE + place)) places

-- a link that is live, wherever it stands
abbrev pub IsLiveThere : Board → Colour → ℕ → Link → Type 0
IsLiveThere board player place link = IsLive board player link

-- a link that is live before a play, and after it too as far as the play's pass has come
abbrev pub IsKeptBelow : Board → Board → Colour → ℕ → ℕ → Link → Type 0
IsKeptBelow before after player bound place link =
    IsLive before player link × (place < bound → IsLive after player link)

-- the number is in the list
abbrev pub IsIn : List ℕ → ℕ → Type 0
IsIn places place = list_any (nat_eq place) places ≡ true

-- each link is live, or its place is on the log
abbrev pub AreLiveOrLogged : Board → Colour → List Link → List ℕ → Type 0
AreLiveOrLogged board player links log =
    (place : ℕ) (link : Link) → slice_get links place ≡ Some link → IsLive board player link ⊎ IsIn log place

-- these links were live before, and each one below the bound that was live before is live still or
-- one of them
pub record AreAllDropped (links : List Link) (before after : Board) (player : Colour) (bound : ℕ)
    (dropped : List ℕ) : Type 0 where
  pub were_live : (place : ℕ) → IsIn dropped place → IsLiveAt before player links place
  pub all : (place : ℕ) (link : Link) → slice_get links place ≡ Some link → place < bound
      → IsLive before player link → IsLive after player link ⊎ IsIn dropped place

-- what the pass took out is on the log, and can be put back exactly
pub record IsPassed (links : List Link) (before after : Board) (player : Colour) (bound : ℕ)
    (old new : Rings) (log log' : List ℕ) : Type 0 where
  pub hold : RingsHold links (IsKeptBelow before after player bound) new
  pub log_ok : LogHolds links (IsKeptBelow before after player bound) log'
  pub dropped : List ℕ
  pub logged : log' ≡ log ++ reverse dropped
  pub can : CanRelink new dropped
  pub back : relinked_all new dropped ≡ old
  pub all_dropped : AreAllDropped links before after player bound dropped
