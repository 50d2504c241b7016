-- Counts of refusals.
use Rattle.std.specs.Prelude.{◌≡◌, ℕ, ◌≤◌}
use Rattle.hx_io.specs.Causes.{next_count}
use Rattle.hx_limits.specs.declared.ran_out.RanOut.{RanOut}
use Rattle.hx_limits.specs.declared.ran_out.RanOut.TheVariants.{Budget, Slots, Memory}

-- a budget and a number of slots, and how many refusals of each were counted
pub record Tallied : Type 0 where
  pub budget : ℕ
  pub slots : ℕ
  pub budgets : ℕ
  pub proofs : ℕ

abbrev pub tallied : ℕ → ℕ → ℕ → ℕ → Tallied
tallied budget slots budgets proofs = record { budget = budget; slots = slots; budgets = budgets; proofs = proofs }

-- the tally with the refusal counted
abbrev pub counting : RanOut → Tallied → Tallied
counting (Budget taken) tally = record tally { budgets = next_count tally.budgets }
counting (Slots refusal) tally = record tally { proofs = next_count tally.proofs }
counting Memory tally = tally

-- neither count is lower than before
pub record NoCountFalls (before now : Tallied) : Type 0 where
  pub budgets : before.budgets ≤ now.budgets
  pub proofs : before.proofs ≤ now.proofs

-- the refusal of a unit of the tally's budget, or of one of its slots
abbrev pub IsCountedBy : Tallied → RanOut → Type 0
IsCountedBy tally (Budget taken) = taken ≡ tally.budget
IsCountedBy tally (Slots refusal) = refusal.held ≡ tally.slots
IsCountedBy tally Memory = ⊥
