use Rattle.hx_core.proofs.RunLaws.{every_run-goes_on}
use Rattle.hx_core.proofs.laws.every_run_goes_on.Goals as goal

pub returns : goal.returns
returns c = every_run-goes_on
