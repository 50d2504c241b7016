-- The steps on a table of hints, for the functions inside the crate alone. The words may be any, since no proof rests
-- on a hint.
use Rattle.std.specs.Prelude.{◌≡◌, ℕ}
use Rattle.atomic_table.specs.Table.{State, Me, Step}
use Rattle.hx_count.specs.declared.hints.Stored.{Stored}

abbrev pub AnyWords : Unit {0} → State (Unit {0}) Stored → Type 0
AnyWords key state = Unit {0}

-- a seat that has put nothing
abbrev pub no_store : Unit {0} → Stored
no_store key = record { place = 0; word = 0 }

-- a new seat knows at which place it put which word
abbrev pub stores : Step (Unit {0}) → Me (Unit {0}) Stored → ℕ → Me (Unit {0}) Stored → Type 0
stores st old found new = new.0 ≡ record { place = st.word; word = st.first }
