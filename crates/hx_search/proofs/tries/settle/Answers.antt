use Rattle.hx_reach.proofs.GrowthLaws.{grown-same}
use Rattle.hx_search.proofs.SettledLaws.{added-grown, added-tried}
use Rattle.hx_search.proofs.tries.settle.Goals as goal

pub returns-in-Ok-clause-grown : goal.returns-in-Ok-clause-grown
returns-in-Ok-clause-grown c = added-grown _ _ c.args.step c.in-Ok.added c.in-Ok.ensures.added

pub returns-in-Ok-clause-tried : goal.returns-in-Ok-clause-tried
returns-in-Ok-clause-tried c = rw c.tried_by.ensures (added-tried _ _ c.args.step c.in-Ok.added c.in-Ok.ensures.added)

pub returns-in-Err-clause-grown : goal.returns-in-Err-clause-grown
returns-in-Err-clause-grown c = grown-same _ _ c.in-Err.ensures.memory
