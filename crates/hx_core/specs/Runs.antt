-- What is true in each state that events lead to from the start, and of a later state beside an earlier one.
use Rattle.std.specs.Prelude.{◌≡◌, ◌≢◌, ◌≤◌, ℕ, List, [], ◌++◌, length}
use Rattle.hx_tree.specs.Entries.{AreDistinctEntries, Extends}
use Rattle.hx_tree.specs.Trees.{AreRight, IsValidTree}
use Rattle.hx_count.specs.Machine.{CountsState, IsInBudget, AreBounded}
use Rattle.hx_core.specs.declared.events.Event.{Event}
use Rattle.hx_core.specs.BookMachine.{BookState, seen_by}
use Rattle.hx_core.specs.Machine.{MachineState, machine_start, LeadsTo}

-- the book of so many workers and slots: each node is right after those before it, no two are of one position and
-- mover, and what each worker has seen is a front of the list
pub record IsBook (workers slots : ℕ) (book : BookState) : Type 0 where
  pub same_workers : length book.seen ≡ workers
  pub same_slots : book.slots ≡ slots
  pub held : length book.nodes ≤ slots
  pub right : AreRight book.nodes
  pub distinct : AreDistinctEntries book.nodes
  pub seen : (worker : ℕ) → seen_by book worker ≤ length book.nodes

-- the counts of so many workers, units and words: no more units are granted than there are, all of them where a
-- worker was refused, and each worker has all the words and holds at most `MOST_HELD` in all
pub record AreCounts (workers budget words : ℕ) (counts : CountsState) : Type 0 where
  pub same_workers : length counts.accounts ≡ workers
  pub same_budget : counts.budget ≡ budget
  pub in_budget : IsInBudget counts
  pub bounded : AreBounded words counts

pub record IsKept (workers slots budget words : ℕ) (state : MachineState) : Type 0 where
  pub book : IsBook workers slots state.book
  pub counts : AreCounts workers budget words state.counts

-- what is true wherever events lead from the start
abbrev pub EveryRunKeeps : Type 0
EveryRunKeeps =
    (workers slots budget words : ℕ) (events : List Event) (state : MachineState)
    → LeadsTo (machine_start workers slots budget words) events state
    → IsKept workers slots budget words state

-- where there is some node, the nodes are a valid tree
abbrev pub EveryRunGivesATree : Type 0
EveryRunGivesATree =
    (workers slots budget words : ℕ) (events : List Event) (state : MachineState)
    → LeadsTo (machine_start workers slots budget words) events state
    → state.book.nodes ≢ [] → IsValidTree state.book.nodes

-- the later list begins with the earlier one, and each worker has seen what it had seen, or more
pub record IsLaterState (old new : MachineState) : Type 0 where
  pub extends : Extends old.book.nodes new.book.nodes
  pub seen : (worker : ℕ) → seen_by old.book worker ≤ seen_by new.book worker

-- a state that events lead to, and a state that further events lead to from there
abbrev pub EveryRunGrows : Type 0
EveryRunGrows =
    (workers slots budget words : ℕ) (earlier later : List Event) (old new : MachineState)
    → LeadsTo (machine_start workers slots budget words) earlier old
    → LeadsTo old later new → IsLaterState old new

-- events that lead from one state to a second, and events that lead from there to a third, lead from the first to the
-- third
abbrev pub EveryRunGoesOn : Type 0
EveryRunGoesOn =
    (old between new : MachineState) (earlier later : List Event) → LeadsTo old earlier between
    → LeadsTo between later new → LeadsTo old (earlier ++ later) new
