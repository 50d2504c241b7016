use Rattle.hx_core.proofs.RunLaws.{every_run-grows}
use Rattle.hx_core.proofs.laws.every_run_grows.Goals as goal

pub returns : goal.returns
returns c = every_run-grows
