-- What searches leave for one another.
use Rattle.std.specs.Prelude.{Option, option_map}
use Rattle.hx_board.specs.Cells.{Extent}
use Rattle.hx_solve.specs.declared.kept_zones.KeptZones.{KeptZones}

-- the size of the boards of which zones are kept, if any are
abbrev pub size_kept : KeptZones → Option Extent
size_kept zones = option_map (λ table. table.size) zones.kept
