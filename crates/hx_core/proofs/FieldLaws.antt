-- What each event leaves of the fields of the state.
use Rattle.std.proofs.Common.{◌≡◌, ◌≢◌, ℕ, ◌+◌, ◌<◌, ◌≤◌, Bool, true, false, List, [], ◌∷◌, ◌++◌, length, set, get_or, refl, inr, sym, ap}
use Rattle.std.proofs.Common.{◌∙◌, subst, arith, length-append}
use Rattle.std.specs.Prelude.{replicate, slice_index, take, if◌then◌else◌}
use Rattle.std.proofs.lemmas.Bool.{lt-ltb, le-ltb}
use Rattle.hx_tree.specs.declared.nodes.Node.{Node}
use Rattle.hx_tree.specs.Entries.{HasNoEntry}
use Rattle.hx_tree.specs.Rules.{IsRightNode}
use Rattle.hx_tree.specs.Trees.{headings_of}
use Rattle.hx_tree.proofs.RightNodeGrowth.{right_node-whole}
use Rattle.hx_count.specs.Machine.{Account, CountsState, account, changed_at, with_unit, with_refusal, with_account, granted_to_all}
use Rattle.hx_count.specs.Machine.{losses_at, has_units, counts_step, worker_of, IsAllowed}
use Rattle.hx_count.specs.declared.events.CountEvent.{CountEvent}
use Rattle.hx_count.specs.declared.events.CountEvent.TheVariants.{Spend as SpendUnit}
use Rattle.hx_count.proofs.MachineLaws.{losses-le}
use Rattle.hx_core.specs.declared.events.Reply.{Reply}
use Rattle.hx_core.specs.declared.events.Reply.TheVariants.{Granted, Spent, Stored, NoSlot}
use Rattle.hx_core.specs.BookMachine.{BookState, with_seen, with_all_seen, StoreStep}
use Rattle.hx_core.specs.Machine.{MachineState}
use Rattle.hx_core.specs.Runs.{IsKept}
use Rattle.hx_core.specs.Fields.{machine, AreInRange, FieldsKeep}
use Rattle.hx_core.proofs.ListChanges.{set-changed}
use Rattle.hx_core.proofs.BookSteps.{seen-kept, node-kept}
use Rattle.hx_core.proofs.CountSteps.{counts-kept}
use Rattle.hx_core.proofs.RunLaws.{begun-kept}

pub fields-begun : (workers slots budget words room : ℕ) (nodes : List Node) (seen : List ℕ) (accounts : List Account)
    → AreInRange workers slots budget words
    → nodes ≡ [] → seen ≡ replicate workers 0 → accounts ≡ replicate workers (account 0 false (replicate words 0)) → slots ≤ room
    → FieldsKeep (machine slots nodes seen budget accounts) room
fields-begun workers slots budget words room nodes seen accounts in_range no_node none_seen at_start enough = record {
  workers = workers;
  slots = slots;
  budget = budget;
  words = words;
  in_range = in_range;
  kept = rw (no_node, none_seen, at_start) (begun-kept workers slots budget words);
  node_room = enough;
}

module _ (slots : ℕ) (nodes : List Node) (seen : List ℕ) (budget : ℕ) (accounts : List Account) (room : ℕ)
    (fields : FieldsKeep (machine slots nodes seen budget accounts) room) where
  abbrev state : MachineState
  state = machine slots nodes seen budget accounts

  fields-as : (new : MachineState) → IsKept fields.workers fields.slots fields.budget fields.words new → FieldsKeep new room
  fields-as new kept = record {
    workers = fields.workers;
    slots = fields.slots;
    budget = fields.budget;
    words = fields.words;
    in_range = fields.in_range;
    kept = kept;
    node_room = fields.node_room;
  }

  -- a worker has seen so many nodes
  pub fields-seen : (worker count : ℕ) → count ≤ length nodes
      → FieldsKeep (machine slots nodes (set seen worker count) budget accounts) room
  fields-seen worker count few = fields-as (machine slots nodes (set seen worker count) budget accounts) (record {
    book = seen-kept fields.workers fields.slots state.book fields.kept.book worker count few;
    counts = fields.kept.counts;
  })

  -- a node more, which the worker has seen
  pub fields-added : (worker held : ℕ) (node : Node) → held ≡ length nodes → held ≢ slots
      → IsRightNode (headings_of (take (slice_index seen worker) nodes)) node
      → HasNoEntry nodes node.heading.position node.heading.to_move
      → FieldsKeep (machine slots (nodes ++ node ∷ []) (set seen worker (held + 1)) budget accounts) room
  fields-added worker held node is_held left right none =
      fields-as (machine slots (nodes ++ node ∷ []) (set seen worker (held + 1)) budget accounts) (record {
        book = seen-kept fields.workers fields.slots (record { slots = slots; nodes = nodes ++ node ∷ []; seen = seen })
            (node-kept fields.workers fields.slots state.book fields.kept.book node
            (omega (arith, is_held, left, fields.kept.book.held, fields.kept.book.same_slots))
            (right_node-whole nodes (slice_index seen worker) node right) none)
            worker (held + 1) (omega (arith, is_held, length-append nodes (node ∷ [])));
        counts = fields.kept.counts;
      })

  -- no word is held more often than all workers may hold
  pub losses-few : (word : ℕ) → losses_at state.counts word ≤ 65536
  losses-few word = let counts = fields.kept.counts in let in_range = fields.in_range in
      omega (arith, losses-le fields.words state.counts word counts.bounded, counts.same_workers, in_range.few_workers)

  -- the counts after an event
  pub fields-counted : (event : CountEvent) → IsAllowed state.counts event
      → FieldsKeep (record state { counts = counts_step state.counts event }) room
  fields-counted event allowed = fields-as (record state { counts = counts_step state.counts event }) (record {
    book = fields.kept.book;
    counts = counts-kept fields.workers fields.budget fields.words state.counts fields.kept.counts event allowed;
  })

-- ---- what is answered of the book

module _ (slots : ℕ) (nodes : List Node) (seen : List ℕ) (worker held : ℕ) (is_held : held ≡ length nodes) where
  abbrev book : BookState
  book = record { slots = slots; nodes = nodes; seen = seen }

  -- the worker has seen so many nodes, which are all
  pub all-seen : record { slots = slots; nodes = nodes; seen = set seen worker held } ≡ with_all_seen book nodes worker
  all-seen = ap (λ (n : ℕ). with_seen book worker n) is_held

  module _ (node : Node) (none : HasNoEntry nodes node.heading.position node.heading.to_move) where
    pub refused-step : held ≡ slots
        → StoreStep book worker node (NoSlot held) (record { slots = slots; nodes = nodes; seen = set seen worker held })
    refused-step full = (record { none = none; full = omega (arith, is_held, full); same_held = is_held; same = refl }, all-seen)

    pub added-step : held ≢ slots → length nodes ≤ slots
        → StoreStep book worker node (Stored held) (record { slots = slots; nodes = nodes ++ node ∷ []; seen = set seen worker (held + 1) })
    added-step left few =
        let longer : held + 1 ≡ length (nodes ++ node ∷ []) = omega (arith, is_held, length-append nodes (node ∷ [])) in (
          inr (record { none = none; room = omega (arith, is_held, left, few); last = is_held; grown = refl }),
          ap (λ (n : ℕ). with_seen (record book { nodes = nodes ++ node ∷ [] }) worker n) longer,
        )

-- ---- accounts that are read and written

-- an event of the counts changes the account of its worker so
abbrev pub Changes : (Account → Account) → CountsState → CountEvent → Type 0
Changes change counts event = counts_step counts event ≡ with_account change counts (worker_of event)

module _ (slots : ℕ) (nodes : List Node) (seen : List ℕ) (budget : ℕ) (accounts : List Account) (event : CountEvent)
    (allowed : IsAllowed (record { budget = budget; accounts = accounts }) event) (change : Account → Account)
    (changes : Changes change (record { budget = budget; accounts = accounts }) event)
    (read written : Account) (is_read : read ≡ get_or accounts (worker_of event) read) (is_changed : written ≡ change read) where
  abbrev before : MachineState
  before = machine slots nodes seen budget accounts

  pub step-written : machine slots nodes seen budget
      (set accounts (worker_of event) written) ≡ record before { counts = counts_step before.counts event }
  step-written =
      let one : set accounts (worker_of event) written ≡ changed_at change accounts (worker_of event) =
      ap (λ (a : Account). set accounts (worker_of event) a) is_changed
      ∙ set-changed change accounts (worker_of event) read allowed.0 is_read in
      ap (λ (all : List Account). machine slots nodes seen budget all) one
      ∙ ap (λ (c : CountsState). record before { counts = c }) (sym changes)

  pub fields-written : (room : ℕ) → FieldsKeep before room
      → FieldsKeep (machine slots nodes seen budget (set accounts (worker_of event) written)) room
  fields-written room fields =
      subst (λ (s : MachineState). FieldsKeep s room) (sym step-written)
      (fields-counted slots nodes seen budget accounts room fields event allowed)

-- ---- units

pub unit_left : (counts : CountsState) (granted : ℕ) → granted ≡ granted_to_all counts → granted < counts.budget → has_units counts ≡ true
unit_left counts granted is less = lt-ltb (granted_to_all counts) counts.budget (omega (arith, is, less))

pub no_unit_left : (counts : CountsState) (granted : ℕ) → granted ≡ granted_to_all counts → counts.budget ≤ granted
    → has_units counts ≡ false
no_unit_left counts granted is more = le-ltb (granted_to_all counts) counts.budget (omega (arith, is, more))

module _ (counts : CountsState) (worker : ℕ) where
  abbrev answer : Bool → Reply
  answer left = if left then Granted else Spent counts.budget

  pub granted-answer : has_units counts ≡ true → Granted ≡ (if has_units counts then Granted else Spent counts.budget)
  granted-answer left = ap answer (sym left)

  pub refused-answer : has_units counts ≡ false → Spent counts.budget ≡ (if has_units counts then Granted else Spent counts.budget)
  refused-answer left = ap answer (sym left)

  pub granted-changes : has_units counts ≡ true → Changes with_unit counts (SpendUnit worker)
  granted-changes left = ap (λ (b : Bool). with_account (if b then with_unit else with_refusal) counts worker) left

  pub refused-changes : has_units counts ≡ false → Changes with_refusal counts (SpendUnit worker)
  refused-changes left = ap (λ (b : Bool). with_account (if b then with_unit else with_refusal) counts worker) left
