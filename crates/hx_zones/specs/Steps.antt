-- The steps on a table of zones, for the functions inside the crate alone. The words may be any, since no proof rests
-- on a zone.
use Rattle.std.specs.Prelude.{ℕ}
use Rattle.atomic_table.specs.Table.{State, Me, Step}

abbrev pub AnyWords : Unit {0} → State (Unit {0}) (Unit {0}) → Type 0
AnyWords key state = Unit {0}

-- a seat that tells nothing
abbrev pub no_view : Unit {0} → Unit {0}
no_view key = key

-- a step tells nothing
abbrev pub steps : Step (Unit {0}) → Me (Unit {0}) (Unit {0}) → ℕ → Me (Unit {0}) (Unit {0}) → Type 0
steps st old found new = Unit {0}
