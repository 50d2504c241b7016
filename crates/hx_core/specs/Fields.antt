-- The state of the machine as contracts see it, made of the fields, and what is true of the fields. These words are
-- for the functions inside the crate alone.
use Rattle.std.specs.Prelude.{◌<◌, ◌≤◌, ◌^◌, ℕ, List}
use Rattle.hx_tree.specs.declared.checkers.TheConstants.{MOST_NODES}
use Rattle.hx_tree.specs.declared.nodes.Node.{Node}
use Rattle.hx_count.specs.Machine.{Account}
use Rattle.hx_core.specs.Machine.{MachineState}
use Rattle.hx_core.specs.Runs.{IsKept}

-- the state of these parts
abbrev pub machine : ℕ → List Node → List ℕ → ℕ → List Account → MachineState
machine slots nodes seen budget accounts = record {
  book = record { slots = slots; nodes = nodes; seen = seen };
  counts = record { budget = budget; accounts = accounts };
}

-- the numbers that a machine may be started with
pub record AreInRange (workers slots budget words : ℕ) : Type 0 where
  pub some_worker : 0 < workers
  pub few_workers : workers ≤ 64
  pub few_slots : slots ≤ MOST_NODES
  pub small_budget : budget ≤ 2 ^ 40
  pub some_word : 0 < words
  pub few_words : words ≤ 65536

-- the state is as one that was started with numbers in range, and there is room for a node in each slot
pub record FieldsKeep (state : MachineState) (room : ℕ) : Type 0 where
  pub workers : ℕ
  pub slots : ℕ
  pub budget : ℕ
  pub words : ℕ
  pub in_range : AreInRange workers slots budget words
  pub kept : IsKept workers slots budget words state
  pub node_room : slots ≤ room
