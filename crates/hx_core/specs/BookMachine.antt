-- The book machine: a list of proofs that workers look in and add to. The list is one for all; how much of it each
-- worker has seen is a number of nodes at its front.
--
-- A step is a relation between a state, an event, an answer and the next state, since which entry is the first is a
-- statement about a list and nothing that is computed there. The counts are numbers, so their step is computed.
--
-- There is no event for `look_wider`: its reply is not settled by the list, since any wider entry is a good answer, and
-- it changes nothing but what the worker has seen. What a worker needs of it stands in its clauses.
use Rattle.std.specs.Prelude.{◌≡◌, ℕ, max, List, [], length, replicate, set, slice_index}
use Rattle.hx_board.specs.declared.colours.Colour.{Colour}
use Rattle.hx_board.specs.Positions.{Board}
use Rattle.hx_tree.specs.declared.nodes.Node.{Node}
use Rattle.hx_tree.specs.Entries.{FindsFirst, IsStored, IsRefused}
use Rattle.hx_core.specs.declared.events.Reply.{Reply}
use Rattle.hx_core.specs.declared.events.Reply.TheVariants.{Looked, Stored, NoSlot}

-- how many nodes there may be, the nodes, and for each worker how many of them it has seen
pub record BookState : Type 0 where
  pub slots : ℕ
  pub nodes : List Node
  pub seen : List ℕ

-- at the start there is no node
abbrev pub book_start : ℕ → ℕ → BookState
book_start slots workers = record { slots = slots; nodes = []; seen = replicate workers 0 }

-- how many nodes a worker has seen
abbrev pub seen_by : BookState → ℕ → ℕ
seen_by book worker = slice_index book.seen worker

-- the worker has seen so many nodes
abbrev pub with_seen : BookState → ℕ → ℕ → BookState
with_seen book worker count = record book { seen = set book.seen worker count }

-- the book with these nodes, all of which the worker has seen
abbrev pub with_all_seen : BookState → List Node → ℕ → BookState
with_all_seen book nodes worker = with_seen (record book { nodes = nodes }) worker (length nodes)

-- a look finds the first entry, or that there is none. It changes only what the worker has seen, which is all nodes
-- then
abbrev pub LookStep : BookState → ℕ → Board → Colour → Reply → BookState → Type 0
LookStep old worker board mover (Looked found) new =
    FindsFirst old.nodes board mover found × (new ≡ with_all_seen old old.nodes worker)
LookStep old worker board mover _ new = ⊥

-- a node is stored, or refused for want of a slot. The worker has seen all nodes then
abbrev pub StoreStep : BookState → ℕ → Node → Reply → BookState → Type 0
StoreStep old worker node (Stored place) new =
    IsStored old.slots old.nodes node place new.nodes × (new ≡ with_all_seen old new.nodes worker)
StoreStep old worker node (NoSlot held) new =
    IsRefused old.slots old.nodes node held new.nodes × (new ≡ with_all_seen old new.nodes worker)
StoreStep old worker node _ new = ⊥

-- the worker that is told has seen what either had
abbrev pub told : BookState → ℕ → ℕ → BookState
told book from to = with_seen book to (max (seen_by book from) (seen_by book to))
