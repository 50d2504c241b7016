-- The bounds that a search may have.
use Rattle.std.specs.Prelude.{◌≤◌}
use Rattle.hx_limits.specs.declared.settings.TheConstants.{MOST_WORKERS, MOST_UNITS, MOST_PROOFS}
use Rattle.hx_limits.specs.declared.settings.Settings.{Settings}

-- 1 to 64 workers, at most 2^40 units, and no more slots than a book may have
pub record AreSettings (settings : Settings) : Type 0 where
  pub some_worker : 1 ≤ settings.workers
  pub few_workers : settings.workers ≤ MOST_WORKERS
  pub budget : settings.budget ≤ MOST_UNITS
  pub slots : settings.slots ≤ MOST_PROOFS

-- the bounds of a search for which nobody chose a number
abbrev pub defaults : Settings
defaults = record { workers = 1; budget = 1000000; slots = 65536 }
