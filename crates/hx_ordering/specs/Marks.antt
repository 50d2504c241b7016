-- The numbers of a position that is not proved.
use Rattle.std.specs.Prelude.{ℕ, ◌-◌, min, max}
use Rattle.hx_pn.specs.declared.proof_numbers.Numbers.{Numbers}
use Rattle.hx_count.specs.declared.hints.TheConstants.{HIGHEST_KEPT}

-- at least 1, and below the highest number of a hint
abbrev within_open : ℕ → ℕ
within_open number = max 1 (min number (HIGHEST_KEPT - 1))

-- the nearest numbers of a position that is not proved
abbrev pub open_of : Numbers → Numbers
open_of numbers = record { phi = within_open numbers.phi; delta = within_open numbers.delta }
