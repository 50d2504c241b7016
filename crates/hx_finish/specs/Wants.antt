-- What is told where a search came to no answer, and which refusal stands behind it.
use Rattle.std.specs.Prelude.{◌≡◌, ℕ, List}
use Rattle.hx_limits.specs.declared.settings.Settings.{Settings}
use Rattle.hx_limits.specs.declared.ran_out.RanOut.{RanOut}
use Rattle.hx_limits.specs.declared.ran_out.RanOut.TheVariants.{Budget, Slots, Memory}
use Rattle.hx_limits.specs.Tallies.{Tallied, tallied}
use Rattle.hx_answers.specs.Texts.{out_of_memory_line, unknown_budget_line, unknown_proofs_line}
use Rattle.hx_finish.specs.declared.wanting.Wanting.{Wanting}
use Rattle.hx_finish.specs.declared.wanting.Wanting.TheVariants.{UnknownBudget, UnknownProofs, OutOfMemory}

-- what is written
abbrev pub wanting_text : Wanting → List ℕ
wanting_text (UnknownBudget budget) = unknown_budget_line budget
wanting_text (UnknownProofs slots) = unknown_proofs_line slots
wanting_text OutOfMemory = out_of_memory_line

-- the exit status that tells it, where it was written whole
abbrev pub wanting_status : Wanting → ℕ
wanting_status (UnknownBudget budget) = 3
wanting_status (UnknownProofs slots) = 3
wanting_status OutOfMemory = 7

-- no refusal stands behind an answer
abbrev pub no_refusal : Settings → Tallied
no_refusal settings = tallied settings.budget settings.slots 0 0

-- the refusals that stand behind it: of a unit, of a slot, or none
abbrev pub wanting_tally : Settings → Wanting → Tallied
wanting_tally settings (UnknownBudget budget) = tallied settings.budget settings.slots 1 0
wanting_tally settings (UnknownProofs slots) = tallied settings.budget settings.slots 0 1
wanting_tally settings OutOfMemory = no_refusal settings

-- the settings' budget or slots are named, and then this is so; want of memory needs no cause
abbrev pub IsWantingWhere : Settings → Type 0 → Wanting → Type 0
IsWantingWhere settings cause (UnknownBudget budget) = (budget ≡ settings.budget) × cause
IsWantingWhere settings cause (UnknownProofs slots) = (slots ≡ settings.slots) × cause
IsWantingWhere settings cause OutOfMemory = Unit {0}

-- it tells the refusal of a unit or of a slot, or want of memory
abbrev pub Tells : Settings → RanOut → Wanting → Type 0
Tells settings (Budget taken) wanting = wanting ≡ UnknownBudget settings.budget
Tells settings (Slots refusal) wanting = wanting ≡ UnknownProofs settings.slots
Tells settings Memory wanting = wanting ≡ OutOfMemory
