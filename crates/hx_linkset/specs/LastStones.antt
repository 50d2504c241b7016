-- The stones that were put since the last link came, and the links that they dropped.
use Rattle.std.specs.Prelude.{◌≡◌, ℕ, ◌==◌, List, [], ◌∷◌, All, Contains, length, slice_get, nat_eq, if◌then◌else◌}
use Rattle.std.specs.List.{IsDistinct}
use Rattle.std.specs.declared.option.Option.TheVariants.{Some}
use Rattle.hx_board.specs.Positions.{Board}
use Rattle.hx_link.specs.declared.links.Link.{Link}
use Rattle.hx_linkset.specs.States.{State, Standing, IsLive}

-- the board before the stones that were put while there were so many links, with the states before the stones, the last
-- first
abbrev pub board_before : ℕ → Board → List State → Board
board_before count board [] = board
board_before count board (state ∷ past) =
    if length state.links == count then board_before count state.board past else board

-- the link at this place was live before the stones that were put since the last link came, and is
-- not live now
pub record IsDropped (set : Standing) (place : ℕ) : Type 0 where
  pub link : Link
  pub there : slice_get set.present.links place ≡ Some link
  pub was_live : IsLive (board_before (length set.present.links) set.present.board set.past)
      set.player link
  pub is_dead : IsLive set.present.board set.player link → ⊥

-- the places of these links, each once
pub record AreDropped (set : Standing) (places : List ℕ) : Type 0 where
  pub distinct : IsDistinct nat_eq places
  pub each : All (IsDropped set) places
  pub all : (place : ℕ) → IsDropped set place → Contains places place
