-- What every function of a walk keeps, and what it may ask for.
use Rattle.std.specs.Prelude.{◌≡◌, ℕ, ◌+◌, ◌<◌}
use Rattle.hx_board.specs.declared.cells.TheConstants.{CELLS}
use Rattle.hx_linkset.specs.States.{Standing}
use Rattle.hx_count.specs.declared.events.TheConstants.{MOST_HELD}
use Rattle.hx_count.specs.Machine.{held_in_all}
use Rattle.hx_count.specs.Seats.{own, KeepsSeat}
use Rattle.hx_ordering.specs.declared.losses.TheConstants.{LOSS_WORDS}
use Rattle.hx_known.specs.Views.{View, Goes}
use Rattle.hx_dfpn.specs.Keeps.{StandsAgain}
use Rattle.hx_limits.specs.declared.ran_out.RanOut.{RanOut}
use Rattle.hx_limits.specs.Causes.{IsStopped}
use Rattle.hx_walk.specs.declared.walks.Walk.{Walk}

module _ {K G R W : Type 0} where
  -- what is known only grows, the seat holds what it held, and the set stands as it stood; the first argument is a
  -- member of `K`
  pub record Keeps (view : K → View) (old new : Walk K G R W Standing) : Type 0 where
    pub same_worker : new.worker.now.counts.now ≡ old.worker.now.counts.now
    pub same_known : new.known.ghost_name ≡ old.known.ghost_name
    pub same_seat : new.seat.ghost_name ≡ old.seat.ghost_name
    pub goes : Goes (view old.known.now) (view new.known.now)
    pub seat : KeepsSeat old.seat.now new.seat.now
    pub set : StandsAgain old.set new.set

  -- the seat is one of the worker's counts, which have a word for each number, and it may hold so many words more, and
  -- then as many as a search of its own holds
  pub record MayHold (walk : Walk K G R W Standing) (count : ℕ) : Type 0 where
    pub made : walk.seat.now.made ≡ walk.worker.now.counts.now
    pub words : walk.worker.now.counts.now.limits.words ≡ LOSS_WORDS
    pub room : held_in_all (own walk.seat.now) + count + CELLS < MOST_HELD

  -- why the walk stopped, where something ran out
  abbrev pub Stops : (K → View) → Walk K G R W Standing → RanOut → Type 0
  Stops view walk why = IsStopped (view walk.known.now).sight walk.seat.now why
