-- When a node goes on from an earlier one at the turned position.
use Rattle.std.specs.Prelude.{◌≡◌, ℕ, List, slice_get, IsSomeAnd}
use Rattle.hx_turn.specs.Turned.{IsTurned}
use Rattle.hx_tree.specs.declared.nodes.Heading.{Heading}

-- the other heading says that the same player wins the position turned by 180 degrees, with the same player to move
pub record IsTurnedHeading (heading other : Heading) : Type 0 where
  pub turned : IsTurned heading.position other.position
  pub same_mover : other.to_move ≡ heading.to_move
  pub same_winner : other.winner ≡ heading.winner

-- an earlier heading says so
abbrev pub IsRightTurn : List Heading → Heading → ℕ → Type 0
IsRightTurn before heading child = IsSomeAnd (slice_get before child) (IsTurnedHeading heading)
