use Rattle.hx_openings.proofs.CellCounts.{small_by_size}
use Rattle.hx_openings.proofs.laws.openings_small.Goals as goal

pub returns : goal.returns
returns c = small_by_size c.args.size (rw (c.empty-empty.ensures) at c.size-size.ensures.valid).0 c.args.budget
