-- How large a local game may be that is decided.
use Rattle.std.specs.Prelude.{ℕ}

-- the most cells of its carrier
abbrev pub most_cells : ℕ
most_cells = 12
