-- How a history of the counts goes on while one worker does nothing.
use Rattle.std.specs.Prelude.{◌≡◌, ◌≢◌, ℕ, List, [], ◌∷◌, ◌++◌}
use Rattle.hx_count.specs.declared.events.CountEvent.{CountEvent}
use Rattle.hx_count.specs.Machine.{worker_of}

-- none of the events is this worker's
abbrev pub AreOthers : ℕ → List CountEvent → Type 0
AreOthers worker [] = Unit {0}
AreOthers worker (event ∷ events) = (worker_of event ≢ worker) × AreOthers worker events

-- a later history, in which this worker has done nothing more
pub record GoesOn (worker : ℕ) (old new : List CountEvent) : Type 0 where
  pub between : List CountEvent
  pub others : AreOthers worker between
  pub same : new ≡ old ++ between
