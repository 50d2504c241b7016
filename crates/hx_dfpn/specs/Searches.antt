-- What every function of a search keeps, and what it may ask for.
use Rattle.std.specs.Prelude.{◌≡◌, ℕ, ◌+◌, ◌<◌}
use Rattle.hx_linkset.specs.States.{Standing}
use Rattle.hx_count.specs.declared.events.TheConstants.{MOST_HELD}
use Rattle.hx_count.specs.Machine.{held_in_all}
use Rattle.hx_count.specs.Seats.{own as own_account}
use Rattle.hx_ordering.specs.declared.losses.TheConstants.{LOSS_WORDS}
use Rattle.hx_count.specs.Seats.{KeepsSeat}
use Rattle.hx_known.specs.Views.{View, Goes}
use Rattle.hx_dfpn.specs.declared.searches.Search.{Search}
use Rattle.hx_dfpn.specs.Keeps.{StandsAgain}
use Rattle.hx_limits.specs.declared.ran_out.RanOut.{RanOut}
use Rattle.hx_limits.specs.Causes.{IsStopped}

module _ {K G R W : Type 0} where
  -- what is known only grows, the seat holds what it held, and both sets stand as they stood; the first argument is a
  -- member of `K`
  pub record Keeps (view : K → View) (old new : Search K G R W Standing) : Type 0 where
    pub same_worker : new.worker.now.counts.now ≡ old.worker.now.counts.now
    pub same_known : new.known.ghost_name ≡ old.known.ghost_name
    pub same_seat : new.seat.ghost_name ≡ old.seat.ghost_name
    pub goes : Goes (view old.known.now) (view new.known.now)
    pub seat : KeepsSeat old.seat.now new.seat.now
    pub own : StandsAgain old.own new.own
    pub others : StandsAgain old.others new.others

  -- the seat is one of the worker's counts, which have a word for each number, and it may hold so many words more
  pub record MayHold (search : Search K G R W Standing) (count : ℕ) : Type 0 where
    pub made : search.seat.now.made ≡ search.worker.now.counts.now
    pub words : search.worker.now.counts.now.limits.words ≡ LOSS_WORDS
    pub room : held_in_all (own_account search.seat.now) + count < MOST_HELD

  -- why the search stopped, where something ran out
  abbrev pub Stops : (K → View) → Search K G R W Standing → RanOut → Type 0
  Stops view search why = IsStopped (view search.known.now).sight search.seat.now why
