-- The machine: the book machine and the counts machine side by side, step by step over a list of events.
use Rattle.std.specs.Prelude.{◌≡◌, ◌<◌, ℕ, if◌then◌else◌, List, [], ◌∷◌, length, take}
use Rattle.hx_tree.specs.Rules.{IsRightNode}
use Rattle.hx_tree.specs.Trees.{headings_of}
use Rattle.hx_count.specs.Machine.{CountsState, counts_start, counts_step, has_units, losses_at, IsAllowed}
use Rattle.hx_count.specs.declared.events.CountEvent.TheVariants.{Spend as SpendUnit, Hold as HoldWord}
use Rattle.hx_count.specs.declared.events.CountEvent.TheVariants.{Release as ReleaseWord, Look as LookAt}
use Rattle.hx_core.specs.declared.events.Event.{Event}
use Rattle.hx_core.specs.declared.events.Event.TheVariants.{Look, Store, Tell, Spend, Hold, Release, LookAtWord}
use Rattle.hx_core.specs.declared.events.Reply.{Reply}
use Rattle.hx_core.specs.declared.events.Reply.TheVariants.{Told, Granted, Spent, Held, Released, Losses}
use Rattle.hx_core.specs.BookMachine.{BookState, book_start, seen_by, LookStep, StoreStep, told}

pub record MachineState : Type 0 where
  pub book : BookState
  pub counts : CountsState

-- at the start there is no node, no unit is granted and nothing is held
abbrev pub machine_start : ℕ → ℕ → ℕ → ℕ → MachineState
machine_start workers slots budget words =
    record { book = book_start slots workers; counts = counts_start budget words workers }

-- the worker is one of the book's
abbrev pub IsWorker : MachineState → ℕ → Type 0
IsWorker state worker = worker < length state.book.seen

-- when an event may happen: its workers and words are there, a stored node is right after the nodes that its worker
-- has seen, and a worker holds and releases what it may, and looks at a word that there is
abbrev pub CanHappen : MachineState → Event → Type 0
CanHappen state (Look worker position to_move) = IsWorker state worker
CanHappen state (Store worker node) =
    IsWorker state worker × IsRightNode (headings_of (take (seen_by state.book worker) state.book.nodes)) node
CanHappen state (Tell from to) = IsWorker state from × IsWorker state to
CanHappen state (Spend worker) = IsAllowed state.counts (SpendUnit worker)
CanHappen state (Hold worker word) = IsAllowed state.counts (HoldWord worker word)
CanHappen state (Release worker word) = IsAllowed state.counts (ReleaseWord worker word)
CanHappen state (LookAtWord worker word) = IsAllowed state.counts (LookAt worker word)

-- what one event does: its answer, and the state after it
abbrev pub MachineStep : MachineState → Event → Reply → MachineState → Type 0
MachineStep old (Look worker position to_move) reply new =
    LookStep old.book worker position to_move reply new.book × (new.counts ≡ old.counts)
MachineStep old (Store worker node) reply new =
    StoreStep old.book worker node reply new.book × (new.counts ≡ old.counts)
MachineStep old (Tell from to) reply new = (reply ≡ Told) × (new ≡ record old { book = told old.book from to })
MachineStep old (Spend worker) reply new =
    (reply ≡ (if has_units old.counts then Granted else Spent old.counts.budget))
    × (new ≡ record old { counts = counts_step old.counts (SpendUnit worker) })
MachineStep old (Hold worker word) reply new =
    (reply ≡ Held) × (new ≡ record old { counts = counts_step old.counts (HoldWord worker word) })
MachineStep old (Release worker word) reply new =
    (reply ≡ Released) × (new ≡ record old { counts = counts_step old.counts (ReleaseWord worker word) })
MachineStep old (LookAtWord worker word) reply new = (reply ≡ Losses (losses_at old.counts word)) × (new ≡ old)

-- the events can happen one after the other, and lead from one state to the other
abbrev pub LeadsTo : MachineState → List Event → MachineState → Type 0
LeadsTo old [] new = new ≡ old
LeadsTo old (event ∷ events) new =
    CanHappen old event
    × ((reply : Reply)
    × ((between : MachineState) × (MachineStep old event reply between × LeadsTo between events new)))
