-- The counts machine: a budget of units that workers spend, and loss words that they hold, release and look at. Its
-- state is what each worker has. A history is the list of events from the start, the oldest first.
--
-- That a worker was refused is in the state, so that a seat's whole state is what it has seen; a further spend of a
-- refused seat takes no step and is no event. A look at a loss word is an event, though it changes nothing: its place
-- in the one history is what its number is the sum at. Else a call that reads nothing and answers 0 would do for a
-- fresh seat, which need not have seen what others hold.
use Rattle.std.specs.Prelude.{◌≡◌, ℕ, zero, suc, ◌+◌, ◌-◌, ◌<◌, ◌≤◌}
use Rattle.std.specs.Prelude.{Bool, true, false, nat_lt, if◌then◌else◌}
use Rattle.std.specs.Prelude.{List, [], ◌∷◌, length, sum, sum_by, count_by, replicate}
use Rattle.std.specs.Prelude.{slice_index, slice_index_or}
use Rattle.hx_count.specs.declared.events.CountEvent.{CountEvent}
use Rattle.hx_count.specs.declared.events.CountEvent.TheVariants.{Spend, Hold, Release, Look}
use Rattle.hx_count.specs.declared.events.TheConstants.{MOST_HELD}

-- what one worker has: the units granted to it, whether a spend of its was refused, and for each loss word how often it
-- holds it
pub record Account : Type 0 where
  pub granted : ℕ
  pub refused : Bool
  pub held : List ℕ

-- the budget, and the account of each worker
pub record CountsState : Type 0 where
  pub budget : ℕ
  pub accounts : List Account

abbrev pub account : ℕ → Bool → List ℕ → Account
account granted refused held = record { granted = granted; refused = refused; held = held }

-- the account of one who is no worker
abbrev pub no_account : Account
no_account = account 0 false []

-- at the start no unit is granted, and nothing is held
abbrev pub counts_start : ℕ → ℕ → ℕ → CountsState
counts_start budget words workers =
    record { budget = budget; accounts = replicate workers (account 0 false (replicate words 0)) }

-- the account of a worker
abbrev pub account_of : CountsState → ℕ → Account
account_of state worker = slice_index_or state.accounts worker no_account

-- the units granted to all workers
abbrev pub granted_to_all : CountsState → ℕ
granted_to_all state = sum_by (λ (a : Account). a.granted) state.accounts

-- the workers of whom a spend was refused
abbrev pub refused_of_all : CountsState → ℕ
refused_of_all state = count_by (λ (a : Account). a.refused) state.accounts

-- how often all workers together hold a loss word
abbrev pub losses_at : CountsState → ℕ → ℕ
losses_at state word = sum_by (λ (a : Account). slice_index a.held word) state.accounts

-- how often a worker holds any word
abbrev pub held_in_all : Account → ℕ
held_in_all a = sum a.held

-- how often all workers together hold any word
abbrev pub held_by_all : CountsState → ℕ
held_by_all state = sum_by held_in_all state.accounts

-- who has no unit, was refused none, and holds nothing
pub record HasNothing (a : Account) : Type 0 where
  pub granted : a.granted ≡ 0
  pub refused : a.refused ≡ false
  pub held : held_in_all a ≡ 0

-- whether a unit is left: fewer than the budget are granted
abbrev pub has_units : CountsState → Bool
has_units state = nat_lt (granted_to_all state) state.budget

-- the list with the item at a place changed, where it has that place
abbrev pub changed_at : {A : Type 0} → (A → A) → List A → ℕ → List A
changed_at change [] place = []
changed_at change (x ∷ xs) zero = change x ∷ xs
changed_at change (x ∷ xs) (suc place) = x ∷ changed_at change xs place

-- the account with one unit more
abbrev pub with_unit : Account → Account
with_unit a = record a { granted = a.granted + 1 }

-- the account after a refusal
abbrev pub with_refusal : Account → Account
with_refusal a = record a { refused = true }

-- the account that holds the word once more
abbrev pub holding : ℕ → Account → Account
holding word a = record a { held = changed_at (λ (n : ℕ). n + 1) a.held word }

-- the account that holds the word once less
abbrev pub releasing : ℕ → Account → Account
releasing word a = record a { held = changed_at (λ (n : ℕ). n - 1) a.held word }

abbrev pub with_account : (Account → Account) → CountsState → ℕ → CountsState
with_account change state worker = record state { accounts = changed_at change state.accounts worker }

-- a spend is granted while a unit is left, and else refused; a hold and a release change one number by one; a look
-- changes nothing
abbrev pub counts_step : CountsState → CountEvent → CountsState
counts_step state (Spend worker) = with_account (if has_units state then with_unit else with_refusal) state worker
counts_step state (Hold worker word) = with_account (holding word) state worker
counts_step state (Release worker word) = with_account (releasing word) state worker
counts_step state (Look worker word) = state

-- the state after some events, from a given one
abbrev pub counts_run : CountsState → List CountEvent → CountsState
counts_run state [] = state
counts_run state (event ∷ events) = counts_run (counts_step state event) events

-- whose event it is
abbrev pub worker_of : CountEvent → ℕ
worker_of (Spend worker) = worker
worker_of (Hold worker word) = worker
worker_of (Release worker word) = worker
worker_of (Look worker word) = worker

-- what a worker with this account may do: hold a word while it holds fewer than `MOST_HELD` in all, release one that it
-- holds, and look at any
abbrev pub MayDo : Account → CountEvent → Type 0
MayDo a (Spend worker) = Unit {0}
MayDo a (Hold worker word) = (word < length a.held) × (held_in_all a < MOST_HELD)
MayDo a (Release worker word) = 0 < slice_index a.held word
MayDo a (Look worker word) = word < length a.held

-- an event of one of the workers, who may do it
abbrev pub IsAllowed : CountsState → CountEvent → Type 0
IsAllowed state event = (worker_of event < length state.accounts) × MayDo (account_of state (worker_of event)) event

-- each event is allowed after those before it
abbrev pub AreAllowed : CountsState → List CountEvent → Type 0
AreAllowed state [] = Unit {0}
AreAllowed state (event ∷ events) = IsAllowed state event × AreAllowed (counts_step state event) events

-- ---- what is true after each history

-- each worker has a number for each loss word, and holds at most `MOST_HELD` in all
pub record AreBounded (words : ℕ) (state : CountsState) : Type 0 where
  pub long : (worker : ℕ) → worker < length state.accounts → length (account_of state worker).held ≡ words
  pub few : (worker : ℕ) → held_in_all (account_of state worker) ≤ MOST_HELD

-- no more units than the budget are granted, and where a worker was refused, as many as the budget
pub record IsInBudget (state : CountsState) : Type 0 where
  pub within : granted_to_all state ≤ state.budget
  pub full : 0 < refused_of_all state → granted_to_all state ≡ state.budget
