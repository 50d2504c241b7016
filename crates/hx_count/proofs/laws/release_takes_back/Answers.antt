use Rattle.hx_count.proofs.MachineLaws.{releasing-holding, releasing-held}
use Rattle.hx_count.proofs.laws.release_takes_back.Goals as goal

pub returns : goal.returns
returns c = record { whole = releasing-holding; held = releasing-held }
