use Rattle.hx_linkset.proofs.LogWordLaws.{log-none}
use Rattle.hx_linkset.proofs.log.Log.new.Goals as goal

pub invariant_of-result : goal.invariant_of-result
invariant_of-result c = rw c.in-Ok.ensures.items (log-none _ _ c.in-Ok.ensures.capacity c.in-Ok-new.ensures.ok)
