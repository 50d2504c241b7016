-- Lists of numbers.
use Rattle.std.specs.Prelude.{◌≡◌, ℕ, List, slice_get}
use Rattle.std.specs.declared.option.Option.TheVariants.{Some}

-- the number is one of these
abbrev pub StandsIn : List ℕ → ℕ → Type 0
StandsIn numbers number = (k : ℕ) × (slice_get numbers k ≡ Some number)
