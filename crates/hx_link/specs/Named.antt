-- How the links that a step names meet, and what is known of them while they are read. These words are for the
-- functions inside the crate and for proofs alone.
use Rattle.std.specs.Prelude.{◌≡◌, ◌≢◌, ℕ, List, map, slice_get, true, false}
use Rattle.std.specs.declared.option.Option.{Option}
use Rattle.std.specs.declared.option.Option.TheVariants.{Some}
use Rattle.hx_board.specs.declared.colours.Colour.{Colour}
use Rattle.hx_board.specs.declared.vertices.Vertex.{Vertex}
use Rattle.hx_board.specs.declared.vertices.Vertex.TheVariants.{Of}
use Rattle.hx_board.specs.Sets.{has, ShareNone}
use Rattle.hx_board.specs.Positions.{Board, IsEmpty}
use Rattle.hx_link.specs.declared.links.Kind.{Kind}
use Rattle.hx_link.specs.declared.links.Kind.TheVariants.{Full, Semi}
use Rattle.hx_link.specs.declared.links.Link.{Link}
use Rattle.hx_link.specs.declared.meetings.Meeting.{Meeting}
use Rattle.hx_link.specs.declared.meetings.Met.{Met}
use Rattle.hx_link.specs.Steps.{IsLink, HasEnds, carriers_of}

-- the link of this kind, these ends and this carrier, the lower end first
pub record IsMade (board : Board) (player : Colour)
    (kind : Kind) (x y : Vertex) (carrier : ℕ) (link : Link) : Type 0 where
  pub kind_is : link.kind ≡ kind
  pub carrier_is : link.carrier ≡ carrier
  pub ends : HasEnds link x y
  pub link_ok : IsLink board player link

-- two links share exactly this end
pub record MeetIn (first second : Link) (meeting : Meeting) : Type 0 where
  pub first_ends : HasEnds first meeting.from meeting.middle
  pub second_ends : HasEnds second meeting.middle meeting.to
  pub other_ends_differ : meeting.from ≢ meeting.to

-- a link between two ends shares exactly the second of them with another one
pub record IsMeetingAt (from middle : Vertex) (second : Link) (meeting : Meeting) : Type 0 where
  pub from_is : meeting.from ≡ from
  pub middle_is : meeting.middle ≡ middle
  pub second_ends : HasEnds second middle meeting.to
  pub other_ends_differ : from ≢ meeting.to

-- a Full link is at the place
pub record IsFullAt (before : List Link) (place : ℕ) (link : Link) : Type 0 where
  pub there : slice_get before place ≡ Some link
  pub full : link.kind ≡ Full

-- two earlier Full links that share exactly one end and no cell
pub record IsMet (before : List Link) (left right : ℕ) (met : Met) : Type 0 where
  pub first_there : slice_get before left ≡ Some met.first
  pub second_there : slice_get before right ≡ Some met.second
  pub first_full : met.first.kind ≡ Full
  pub second_full : met.second.kind ≡ Full
  pub meet : MeetIn met.first met.second met.at
  pub apart : ShareNone met.first.carrier met.second.carrier

-- the shared end is this empty cell, in neither carrier
pub record IsMiddle (board : Board) (met : Met) (cell : ℕ) : Type 0 where
  pub is_cell : met.at.middle ≡ Of cell
  pub empty : IsEmpty board cell
  pub outside_first : has met.first.carrier cell ≡ false
  pub outside_second : has met.second.carrier cell ≡ false

-- what stands at these places
abbrev pub links_at : List Link → List ℕ → List (Option Link)
links_at before places = map (λ (place : ℕ). slice_get before place) places

-- the link is at a place of the list
abbrev pub IsOneOf : Link → List Link → Type 0
IsOneOf link links = (k : ℕ) × (slice_get links k ≡ Some link)

-- a Semi link of these ends and this carrier is at the place
pub record IsSemiAt (before : List Link) (place : ℕ) (a b : Vertex) (carrier : ℕ) : Type 0 where
  pub part : Link
  pub there : slice_get before place ≡ Some part
  pub semi : part.kind ≡ Semi
  pub ends : HasEnds part a b
  pub carrier_is : part.carrier ≡ carrier

-- a Semi link of these ends is at each of the places
abbrev pub ArePartsFrom : List Link → List ℕ → Vertex → Vertex → Type 0
ArePartsFrom before places a b =
    (k : ℕ) (place : ℕ) → slice_get places k ≡ Some place → (carrier : ℕ) × IsSemiAt before place a b carrier

-- the links at these places, all Semi of these ends; what is in the start and in all of them, and what is in some
pub record PartsSoFar (before : List Link) (places : List ℕ) (a b : Vertex) (start in_all in_some : ℕ) : Type 0 where
  pub links : List Link
  pub there : links_at before places ≡ map (λ (part : Link). Some part) links
  pub semi : (part : Link) → IsOneOf part links → part.kind ≡ Semi
  pub same_ends : (part : Link) → IsOneOf part links → HasEnds part a b
  pub in_each : (cell : ℕ) → has in_all cell ≡ true → (part : Link) → IsOneOf part links → has part.carrier cell ≡ true
  pub missing : (cell : ℕ) → has start cell ≡ true → has in_all cell ≡ false
      → (part : Link) × (IsOneOf part links × (has part.carrier cell ≡ false))
  pub carriers : (cell : ℕ) → has in_some cell ≡ has (carriers_of links) cell
