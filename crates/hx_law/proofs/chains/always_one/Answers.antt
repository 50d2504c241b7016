use Rattle.hx_law.proofs.ChainLaws.{always_one}
use Rattle.hx_law.proofs.chains.always_one.Goals as goal

pub returns : goal.returns
returns c = always_one c.args.position.now c.size-size.ensures.valid c.requires
