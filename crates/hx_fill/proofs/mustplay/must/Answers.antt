use Rattle.std.proofs.Common.{rules}
use Rattle.hx_fill.proofs.mustplay.must.Goals as goal

pub returns-clause-must : goal.returns-clause-must
returns-clause-must c = rw c.new.ensures (search rules)
