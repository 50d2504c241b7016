-- What a play takes away of what is allowed. These words are for the functions inside the crate alone.
use Rattle.std.specs.Prelude.{◌≡◌, ℕ, ◌<◌, true, false}
use Rattle.hx_board.specs.declared.cells.TheConstants.{CELLS}
use Rattle.hx_board.specs.Sets.{has, difference}
use Rattle.hx_link.specs.declared.links.Allowed.{Allowed}
use Rattle.hx_linkset.specs.declared.liveness.Losses.{Losses}

-- these are the empty cells and the ends that are gone, and those of both that are cells together, and where it tells
-- of no such ends the ends are the same
pub record AreLosses (losses : Losses) (before after : Allowed) : Type 0 where
  pub filled : losses.filled ≡ difference before.empties after.empties
  pub ends : losses.ends ≡ difference before.ends after.ends
  pub same : losses.has_ends ≡ false → after.ends ≡ before.ends
  pub taken_cells : (cell : ℕ) → cell < CELLS → has losses.filled cell ≡ true → has losses.taken cell ≡ true
  pub taken_ends : (cell : ℕ) → cell < CELLS → has losses.ends cell ≡ true → has losses.taken cell ≡ true
