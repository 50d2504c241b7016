-- The rule of the table. There is one history, of which each seat has seen a front. Word 0 counts its spends, granted
-- and refused; each other word is a loss word.
--
-- What public clauses take from this file stands first, in a few lines: the state after a history, and which lists are
-- histories. The rule is said in the same words, so the file is read as a whole.
--
-- A rule that some list of numbers with mine in it has this sum would say no more than that my own is at most the sum,
-- so this one has a history.
use Rattle.std.specs.Prelude.{◌≡◌, ℕ, zero, suc, ◌+◌, ◌^◌, ◌<◌, ◌≤◌, min, ◌==◌}
use Rattle.std.specs.Prelude.{List, [], ◌∷◌, ◌++◌, length, take, drop, slice_index, sum_by, count_by}
use mathlib.Core.Option.{some}
use lib.ListN.{get_elem?}
use Rattle.atomic_table.specs.Table.{State, Me, Step}
use Rattle.hx_count.specs.declared.events.CountEvent.{CountEvent}
use Rattle.hx_count.specs.declared.events.CountEvent.TheVariants.{Spend, Hold, Release, Look}
use Rattle.hx_count.specs.declared.views.Limits.{Limits}
use Rattle.hx_count.specs.declared.views.Part.{Part}
use Rattle.hx_count.specs.declared.views.View.{View}
use Rattle.hx_count.specs.Machine.{CountsState, counts_start, counts_run, AreAllowed}
use Rattle.hx_count.specs.Machine.{granted_to_all, refused_of_all, losses_at}
use Rattle.hx_count.specs.Histories.{GoesOn}

-- the machine at the start
abbrev pub start_of : Limits → CountsState
start_of limits = counts_start limits.budget limits.words limits.workers

-- the machine after a history
abbrev pub state_after : Limits → List CountEvent → CountsState
state_after limits history = counts_run (start_of limits) history

-- a history of the machine
abbrev pub IsHistory : Limits → List CountEvent → Type 0
IsHistory limits history = AreAllowed (start_of limits) history

-- ---- words for the functions inside the crate alone

abbrev pub part : Limits → ℕ → List CountEvent → Part
part limits worker seen = record { limits = limits; worker = worker; seen = seen }

abbrev pub view : List Part → View
view parts = record { parts = parts }

-- the limits that the calls allow
pub record AreSmall (limits : Limits) : Type 0 where
  pub budget : limits.budget ≤ 2 ^ 40
  pub words : limits.words ≤ 65536
  pub workers : limits.workers ≤ 64

-- how many of the parts are this worker's
abbrev pub times_in : ℕ → List Part → ℕ
times_in worker parts = count_by (λ (p : Part). p.worker == worker) parts

-- a part is of this table, and what it has seen has all that its worker did
pub record IsCurrent (limits : Limits) (history : List CountEvent) (p : Part) : Type 0 where
  pub same_limits : p.limits ≡ limits
  pub goes_on : GoesOn p.worker p.seen history

abbrev pub AreCurrentParts : Limits → List CountEvent → List Part → Type 0
AreCurrentParts limits history [] = Unit {0}
AreCurrentParts limits history (p ∷ parts) = IsCurrent limits history p × AreCurrentParts limits history parts

abbrev pub AreCurrent : Limits → List CountEvent → List View → Type 0
AreCurrent limits history views =
    (id : ℕ) (v : View) → get_elem? views id ≡ some v → AreCurrentParts limits history v.parts

-- the table between two steps
pub record Counted (limits : Limits) (s : State (Unit {0}) View) : Type 0 where
  pub history : List CountEvent
  pub is_history : IsHistory limits history
  pub small : AreSmall limits
  pub wide : length s.words ≡ limits.words + 1
  pub spent : slice_index s.words 0
      ≡ granted_to_all (state_after limits history) + refused_of_all (state_after limits history)
  pub granted : granted_to_all (state_after limits history) ≡ min (slice_index s.words 0) limits.budget
  pub losses : (word : ℕ) → word < limits.words
      → slice_index s.words (word + 1) ≡ losses_at (state_after limits history) word
  pub once : (worker : ℕ) → worker < limits.workers
      → sum_by (λ (v : View). times_in worker v.parts) s.views ≡ 1
  pub never : (worker : ℕ) → limits.workers ≤ worker
      → sum_by (λ (v : View). times_in worker v.parts) s.views ≡ 0
  pub current : AreCurrent limits history s.views

-- a part for each worker from the first on, who has seen nothing yet
abbrev pub new_parts : Limits → ℕ → ℕ → List Part
new_parts limits first zero = []
new_parts limits first (suc count) = part limits first [] ∷ new_parts limits (first + 1) count

-- the first seat has the parts of all workers
abbrev pub first_view : Limits → View
first_view limits = view (new_parts limits 0 limits.workers)

-- a seat and what it holds of the table: no slot
abbrev pub Seated : Type 0
Seated = Me (Unit {0}) View

-- the event is the next one of the history, and the seat has then seen it
pub record IsNext (p : Part) (event : CountEvent) (v : View) : Type 0 where
  pub before : List CountEvent
  pub goes_on : GoesOn p.worker p.seen before
  pub is_history : IsHistory p.limits (before ++ event ∷ [])
  pub seen : v ≡ view (part p.limits p.worker (before ++ event ∷ []) ∷ [])

-- a spend, and the number that it found in word 0
pub record IsSpend (p : Part) (found : ℕ) (v : View) : Type 0 where
  pub next : IsNext p (Spend p.worker) v
  pub granted : granted_to_all (state_after p.limits next.before) ≡ min found p.limits.budget

-- a look at a loss word, and the number that it found there
pub record IsLook (p : Part) (word found : ℕ) (v : View) : Type 0 where
  pub next : IsNext p (Look p.worker word) v
  pub losses : found ≡ losses_at (state_after p.limits next.before) word

-- what each step tells the seat that makes it, of itself before, the number found, and itself after
abbrev pub spends : Step (Unit {0}) → Seated → ℕ → Seated → Type 0
spends st old found new =
    (new.1 ≡ old.1) × ((p : Part) → old.0.parts ≡ p ∷ [] → IsSpend p found new.0)

abbrev pub holds : Step (Unit {0}) → Seated → ℕ → Seated → Type 0
holds st old found new =
    (new.1 ≡ old.1)
    × ((p : Part) (word : ℕ) → old.0.parts ≡ p ∷ [] → st.word ≡ word + 1
    → IsNext p (Hold p.worker word) new.0)

abbrev pub releases : Step (Unit {0}) → Seated → ℕ → Seated → Type 0
releases st old found new =
    (new.1 ≡ old.1)
    × ((p : Part) (word : ℕ) → old.0.parts ≡ p ∷ [] → st.word ≡ word + 1
    → IsNext p (Release p.worker word) new.0)

abbrev pub looks : Step (Unit {0}) → Seated → ℕ → Seated → Type 0
looks st old found new =
    (new.1 ≡ old.1)
    × ((p : Part) (word : ℕ) → old.0.parts ≡ p ∷ [] → st.word ≡ word + 1
    → IsLook p word found new.0)

-- a seat is split: the new one has the first part, and the others stay
abbrev pub all_but_first : View → View
all_but_first v = view (drop 1 v.parts)

abbrev pub only_first : View → View
only_first v = view (take 1 v.parts)

-- a seat takes in another, whose parts come first
abbrev pub joined : View → View → View
joined v w = view (w.parts ++ v.parts)

abbrev pub no_parts : View
no_parts = view []
