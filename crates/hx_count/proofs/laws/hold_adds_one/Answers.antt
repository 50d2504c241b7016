use Rattle.hx_count.proofs.MachineLaws.{held-holding-le}
use Rattle.hx_count.proofs.laws.hold_adds_one.Goals as goal

pub returns : goal.returns
returns c = held-holding-le
