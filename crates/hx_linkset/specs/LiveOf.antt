-- The live links of one kind and two ends, one after the other, and which of them decide a position.
use Rattle.std.specs.Prelude.{◌≡◌, ℕ, ◌<◌, ◌≤◌, ◌⊎◌, slice_get}
use Rattle.std.specs.declared.option.Option.TheVariants.{Some}
use Rattle.hx_board.specs.declared.colours.Colour.{Colour}
use Rattle.hx_board.specs.declared.vertices.Vertex.{Vertex}
use Rattle.hx_board.specs.declared.vertices.Vertex.TheVariants.{First, Last}
use Rattle.hx_link.specs.declared.links.Kind.{Kind}
use Rattle.hx_link.specs.declared.links.Kind.TheVariants.{Full, Semi}
use Rattle.hx_link.specs.declared.links.Link.{Link}
use Rattle.hx_link.specs.Steps.{HasEnds}
use Rattle.hx_linkset.specs.States.{Standing, IsLive}

-- a live link of this kind and these ends, in either order, is at this place
pub record IsLiveOf (set : Standing) (kind : Kind) (a b : Vertex) (place : ℕ) : Type 0 where
  pub link : Link
  pub there : slice_get set.present.links place ≡ Some link
  pub live : IsLive set.present.board set.player link
  pub kind_is : link.kind ≡ kind
  pub ends : HasEnds link a b

-- the first place with such a link, of those that are not below a bound
pub record IsFirstFrom (set : Standing) (kind : Kind) (a b : Vertex) (bound place : ℕ) : Type 0 where
  pub is : IsLiveOf set kind a b place
  pub not_below : bound ≤ place
  pub first : (other : ℕ) → bound ≤ other → other < place → IsLiveOf set kind a b other → ⊥

-- a live link between the player's two sides is at this place, and it is Full, or the player is to move
abbrev pub Decides : Standing → Colour → ℕ → Type 0
Decides set to_move place = IsLiveOf set Full First Last place
    ⊎ (IsLiveOf set Semi First Last place × (set.player ≡ to_move))
