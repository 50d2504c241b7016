-- The settings that an option may choose. These are words for the functions inside the crate alone.
use Rattle.std.specs.Prelude.{ℕ, ◌^◌, List, codes}
use Rattle.hx_cli.specs.declared.settings.Setting.{Setting}
use Rattle.hx_cli.specs.declared.settings.Setting.TheVariants.{Workers, Budget, Proofs}

abbrev pub name_of : Setting → List ℕ
name_of Workers = codes "--workers"
name_of Budget = codes "--budget"
name_of Proofs = codes "--proofs"

-- the least number that may be chosen
abbrev pub least_of : Setting → ℕ
least_of Workers = 1
least_of Budget = 0
least_of Proofs = 0

-- the largest number that may be chosen
abbrev pub most_of : Setting → ℕ
most_of Workers = 64
most_of Budget = 2 ^ 40
most_of Proofs = 1048576
