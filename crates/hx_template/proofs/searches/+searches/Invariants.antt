-- A move leaves one empty cell less. The cells that are left to try are free, and no move to another free cell leads to
-- what is wanted.
use Rattle.std.proofs.Common.{◌≡◌, ℕ, ◌+◌, ◌*◌, true, false, not}
use Rattle.hx_board.specs.Colours.{other_of}
use Rattle.hx_board.specs.Positions.{put}
use Rattle.hx_board.specs.Sets.{has}
use Rattle.hx_board.specs.Counts.{empty_count}
use Rattle.hx_law.specs.Play.{IsFree}
use Rattle.hx_template.specs.Entries.{AreRight, SecuredIn, IsSo}
use Rattle.hx_template.proofs.searches.+searches.Given as goal

abbrev pub decreases-secures : goal.decreases-secures
decreases-secures l = 3 * empty_count l.position.now + 2

abbrev pub decreases-decided : goal.decreases-decided
decreases-decided l = 3 * empty_count l.position.now + 1

abbrev pub decreases-some_move : goal.decreases-some_move
decreases-some_move l = 3 * empty_count l.position.now

abbrev pub invariant-some_move-loop-cell : goal.invariant-some_move-loop-cell
invariant-some_move-loop-cell l = record {
  table : AreRight l.game l.table;
  free : (cell : ℕ) → has l.cell-iterator.cells cell ≡ true → IsFree (has l.game.carrier) l.position cell;
  tried : (cell : ℕ) → IsFree (has l.game.carrier) l.position cell → has l.cell-iterator.cells cell ≡ false
      → IsSo (not l.wanted) (SecuredIn l.game (put l.position l.to_move cell) (other_of l.to_move));
}
