-- The live Full links at a vertex, and the lists in which the Full links of a set stand, one for each vertex.
use Rattle.std.specs.Prelude.{◌≡◌, ℕ, ◌+◌, ◌-◌, ◌<◌, Bool, true, false, ◌&&◌, nat_eq, if◌then◌else◌, List, [], ◌∷◌}
use Rattle.std.specs.Prelude.{◌++◌, length, map, filter, take, All, Contains, slice_get, slice_index_or, Vec}
use Rattle.std.specs.List.Sorted.{IsStrictlyIncreasing}
use Rattle.std.specs.declared.alloc.Global.{Global}
use Rattle.std.specs.declared.option.Option.TheVariants.{Some}
use Rattle.hx_board.specs.declared.vertices.Vertex.{Vertex}
use Rattle.hx_board.specs.declared.vertices.TheConstants.{VERTICES}
use Rattle.hx_board.specs.Sets.{has, intersection, IsSubset}
use Rattle.hx_board.specs.VertexSets.{code_of, IsSomeVertex}
use Rattle.hx_link.specs.declared.links.Kind.{Kind}
use Rattle.hx_link.specs.declared.links.Kind.TheVariants.{Full, Semi}
use Rattle.hx_link.specs.declared.links.Link.{Link}
use Rattle.hx_link.specs.Steps.{HasEnds}
use Rattle.hx_linkset.specs.declared.fulls.FullLink.{FullLink}
use Rattle.hx_linkset.specs.States.{Standing, IsLive}

-- at the index is a live Full link between the vertex and the other end, in either order, and this is its carrier
pub record IsFullAt (set : Standing) (vertex : Vertex) (full : FullLink) : Type 0 where
  pub link : Link
  pub there : slice_get set.present.links full.index ≡ Some link
  pub live : IsLive set.present.board set.player link
  pub kind_is : link.kind ≡ Full
  pub ends : HasEnds link vertex full.to
  pub carrier_is : full.carrier ≡ link.carrier

-- the live Full links that end at the vertex, each once, in rising order of their indices
pub record AreFullAt (set : Standing) (vertex : Vertex) (fulls : List FullLink) : Type 0 where
  pub rising : IsStrictlyIncreasing (map (λ (full : FullLink). full.index) fulls)
  pub each : All (IsFullAt set vertex) fulls
  pub all : (full : FullLink) → IsFullAt set vertex full → Contains fulls full

-- such a link whose carrier has none but these cells, and whose other end is one of these vertices
pub record IsFullWithin (set : Standing) (vertex : Vertex) (cells to : ℕ) (full : FullLink) : Type 0 where
  pub full_at : IsFullAt set vertex full
  pub inside : IsSubset full.carrier cells
  pub leads_to : has to (code_of full.to) ≡ true

-- the live Full links that end at the vertex, have carriers inside these cells and lead to one of these vertices, each
-- once, in rising order of their indices
pub record AreFullWithin (set : Standing) (vertex : Vertex) (cells to : ℕ) (fulls : List FullLink) : Type 0 where
  pub rising : IsStrictlyIncreasing (map (λ (full : FullLink). full.index) fulls)
  pub each : All (IsFullWithin set vertex cells to) fulls
  pub all : (full : FullLink) → IsFullWithin set vertex cells to full → Contains fulls full

-- ---- words for the functions inside the crate alone

-- a Full link as it is seen from an end, and nothing of any other link; the tests say whether the vertex is its first
-- end, and whether it is its second
abbrev pub seen_by : Kind → Bool → Bool → ℕ → Link → List FullLink
seen_by Semi at_a at_b place link = []
seen_by Full true at_b place link = record { index = place; to = link.b; carrier = link.carrier } ∷ []
seen_by Full false true place link = record { index = place; to = link.a; carrier = link.carrier } ∷ []
seen_by Full false false place link = []

-- the link at a place as it is seen from the vertex with a code
abbrev pub seen_from : ℕ → ℕ → Link → List FullLink
seen_from code place link = seen_by link.kind (nat_eq (code_of link.a) code) (nat_eq (code_of link.b) code) place link

-- the Full links of a list that end at the vertex with a code, in their order; the first of the list has this place
abbrev pub fulls_from : ℕ → ℕ → List Link → List FullLink
fulls_from code place [] = []
fulls_from code place (link ∷ links) = seen_from code place link ++ fulls_from code (place + 1) links

-- the Full links of a list that end at a vertex, in their order
abbrev pub fulls_of : List Link → Vertex → List FullLink
fulls_of links vertex = fulls_from (code_of vertex) 0 links

-- there is a list for each vertex, at its code, and in it stand the Full links that end there
pub record AreFullLists (links : List Link) (lists : List (List FullLink)) : Type 0 where
  pub long : length lists ≡ VERTICES
  pub some : (place : ℕ) (link : Link) → slice_get links place ≡ Some link → link.kind ≡ Full
      → IsSomeVertex link.a × IsSomeVertex link.b
  pub each : (vertex : Vertex) → code_of vertex < VERTICES
      → slice_index_or lists (code_of vertex) [] ≡ fulls_of links vertex

-- what is in each of some lists
abbrev pub contents_of : List (Vec FullLink Global) → List (List FullLink)
contents_of lists = map (λ (list : Vec FullLink Global). list.items) lists

-- a list without its last entry
abbrev pub without_last : List FullLink → List FullLink
without_last fulls = take (length fulls - 1) fulls

-- the carrier is empty, and the other end is open
abbrev pub is_live_from : ℕ → ℕ → FullLink → Bool
is_live_from empties ends full = nat_eq (intersection full.carrier empties) full.carrier && has ends (code_of full.to)

-- those of which this is so
abbrev pub live_from : ℕ → ℕ → List FullLink → List FullLink
live_from empties ends fulls = filter (is_live_from empties ends) fulls

-- the live ones of the list of a vertex: none where the vertex is not open
abbrev pub live_at : ℕ → ℕ → Vertex → List FullLink → List FullLink
live_at empties ends vertex fulls = if has ends (code_of vertex) then live_from empties ends fulls else []
