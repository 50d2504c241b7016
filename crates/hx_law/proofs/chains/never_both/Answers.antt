use Rattle.hx_law.proofs.ChainLaws.{never_both}
use Rattle.hx_law.proofs.chains.never_both.Goals as goal

pub returns : goal.returns
returns c = never_both c.args.position.now c.size-size.ensures.valid
