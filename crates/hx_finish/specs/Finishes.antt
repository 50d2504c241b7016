-- What the end of a run that searches is good for.
use Rattle.std.specs.Prelude.{◌≡◌, ◌⊎◌, ℕ, List, Option}
use Rattle.hx_io.specs.Sinks.{Writing, SomeWriteFailed, append}
use Rattle.hx_limits.specs.declared.settings.Settings.{Settings}
use Rattle.hx_limits.specs.Tallies.{Tallied}
use Rattle.hx_answers.specs.Texts.{out_of_memory_line, unknown_budget_line, unknown_proofs_line}
use Rattle.hx_finish.specs.declared.finishes.Finish.{Finish}

-- the output names the budget, and the refusal of a unit was counted once; or it names the slots, and the refusal of a
-- slot was
abbrev pub SaysUnknown : Settings → Option (List ℕ) → Option (List ℕ) → Tallied → Type 0
SaysUnknown settings before now tally =
    ((now ≡ append before (unknown_budget_line settings.budget)) × (tally.budgets ≡ 1))
    ⊎ ((now ≡ append before (unknown_proofs_line settings.slots)) × (tally.proofs ≡ 1))

-- no refusal was counted
abbrev pub CountsNoRefusal : Tallied → Type 0
CountsNoRefusal tally = (tally.budgets ≡ 0) × (tally.proofs ≡ 0)

-- this status, unless the sink failed or memory was wanting
abbrev pub IsUnlessCutShort : ℕ → ℕ → Type 0
IsUnlessCutShort status wanted = (status ≡ wanted) ⊎ ((status ≡ 6) ⊎ (status ≡ 7))

-- The promises of a run that searches and reads nothing: what its output says in the end, where it comes to that, and
-- why it does not; by its settings, how far was written to its sink before and is now, and how it ended.
pub record EndsSo (says enough cause : Type 0) (settings : Settings) (sink sink_now : Writing)
    (finish : Finish) : Type 0 where
  -- with status 0 the output says this, and no refusal was counted
  pub said : finish.status ≡ 0 → says
  pub no_refusal : finish.status ≡ 0 → CountsNoRefusal finish.tally
  -- where there is enough it ends so, whatever the other options
  pub enough_ends : enough → IsUnlessCutShort finish.status 0
  -- 3 comes only by this cause, and only where a refusal was counted, of a unit of the budget or of one of the slots;
  -- the line that is written says which of them
  pub unknown : finish.status ≡ 3 → cause × SaysUnknown settings sink.taken sink_now.taken finish.tally
  -- with 7 the output says that memory was wanting
  pub memory : finish.status ≡ 7 → sink_now.taken ≡ append sink.taken out_of_memory_line
  -- a failed write has its cause, and no other status comes
  pub write_fault : finish.status ≡ 6 → SomeWriteFailed sink sink_now
  pub none_else : (finish.status ≡ 3) ⊎ IsUnlessCutShort finish.status 0
