-- Seats as contracts see them: which counts a seat is of, its worker's number, and the history as far as it has seen
-- it. What its worker has is what the counts machine says after that history.
use Rattle.std.specs.Prelude.{◌≡◌, ℕ, zero, suc, ◌+◌, Bool, true, false}
use Rattle.std.specs.Prelude.{List, [], ◌∷◌, ◌++◌, slice_index_or}
use Rattle.std.specs.Prelude.{Result, Ok, Err, MatchResult}
use Rattle.std.specs.List.{All}
use Rattle.atomic_table.specs.Seated.{TableId}
use Rattle.hx_count.specs.declared.events.CountEvent.{CountEvent}
use Rattle.hx_count.specs.declared.events.CountEvent.TheVariants.{Spend}
use Rattle.hx_count.specs.declared.views.Limits.{Limits}
use Rattle.hx_count.specs.declared.views.Part.{Part}
use Rattle.hx_count.specs.declared.views.View.{View}
use Rattle.hx_count.specs.Machine.{CountsState, Account, account_of, with_unit, with_refusal, has_units}
use Rattle.hx_count.specs.Machine.{granted_to_all, held_by_all, held_in_all}
use Rattle.hx_count.specs.Histories.{GoesOn}
use Rattle.hx_count.specs.Counted.{Seated, part, view, state_after, IsHistory}

-- which counts: their table, and its limits
pub record Origin : Type 0 where
  pub table : TableId
  pub limits : Limits

pub record Seat : Type 0 where
  pub made : Origin
  pub worker : ℕ
  pub seen : List CountEvent

abbrev pub origin : TableId → Limits → Origin
origin table limits = record { table = table; limits = limits }

abbrev pub seat : Origin → ℕ → List CountEvent → Seat
seat made worker seen = record { made = made; worker = worker; seen = seen }

-- the machine after what the seat has seen
abbrev pub state_seen : Seat → CountsState
state_seen s = state_after s.made.limits s.seen

-- what the seat's worker has
abbrev pub own : Seat → Account
own s = account_of (state_seen s) s.worker

-- a seat for each worker from the first on, who has seen nothing yet
abbrev pub new_seats : Origin → ℕ → ℕ → List Seat
new_seats made first zero = []
new_seats made first (suc count) = seat made first [] ∷ new_seats made (first + 1) count

-- the seat's event is the next one of the history, behind all that the seat had seen; between the two stand events of
-- others alone
pub record Adds (old : Seat) (event : CountEvent) (new : Seat) : Type 0 where
  pub before : List CountEvent
  pub goes_on : GoesOn old.worker old.seen before
  pub is_history : IsHistory old.made.limits (before ++ event ∷ [])
  pub same : new ≡ seat old.made old.worker (before ++ event ∷ [])

-- a spend is the next event, and it is granted exactly where a unit is left after the history before it
pub record Spends (old : Seat) (result : Result (Unit {0}) ℕ) (new : Seat) : Type 0 where
  pub adds : Adds old (Spend old.worker) new
  pub exact : MatchResult result (λ _. has_units (state_after old.made.limits adds.before) ≡ true)
      (λ _. has_units (state_after old.made.limits adds.before) ≡ false)

-- the worker's account after a spend
abbrev pub after_spend : Result (Unit {0}) ℕ → Account → Account
after_spend (Ok done) a = with_unit a
after_spend (Err taken) a = with_refusal a

-- the history when the counts are closed: all seats have seen fronts of it, and these are the sums after it
pub record AreTotals (made : Origin) (seats : List Seat) (granted held : ℕ) : Type 0 where
  pub history : List CountEvent
  pub is_history : IsHistory made.limits history
  pub seen : All (λ (s : Seat). GoesOn s.worker s.seen history) seats
  pub same_granted : granted ≡ granted_to_all (state_after made.limits history)
  pub same_held : held ≡ held_by_all (state_after made.limits history)

-- a seat of the same counts, which holds each word as often as before, and is refused if it was
pub record KeepsSeat (old new : Seat) : Type 0 where
  pub same_made : new.made ≡ old.made
  pub same_held : (own new).held ≡ (own old).held
  pub still_refused : (own old).refused ≡ true → (own new).refused ≡ true

-- ---- the fields of a seat: words for the functions inside the crate alone

-- one who is no worker, of no table
abbrev pub no_part : Part
no_part = part (record { budget = 0; words = 0; workers = 0 }) 0 []

abbrev pub first_part : View → Part
first_part v = slice_index_or v.parts 0 no_part

abbrev pub seat_of : TableId → Part → Seat
seat_of table p = seat (origin table p.limits) p.worker p.seen

-- the part of a seat
abbrev pub part_of : Seat → Part
part_of s = part s.made.limits s.worker s.seen

-- one part, whose worker has done nothing yet
abbrev pub IsNew : Seated → Type 0
IsNew me = me ≡ (view (part (first_part me.0).limits (first_part me.0).worker [] ∷ []), [])

-- what the worker of a part has
abbrev pub account_in : Part → Account
account_in p = account_of (state_after p.limits p.seen) p.worker

-- a seat has one part and no slot, and its numbers are its worker's
pub record SeatKeeps (me : Seated) (granted held : ℕ) (refused : Bool) : Type 0 where
  pub whole : me ≡ (view (first_part me.0 ∷ []), [])
  pub is_history : IsHistory (first_part me.0).limits (first_part me.0).seen
  pub same_granted : (account_in (first_part me.0)).granted ≡ granted
  pub same_refused : (account_in (first_part me.0)).refused ≡ refused
  pub same_held : held_in_all (account_in (first_part me.0)) ≡ held
