use Rattle.hx_io.specs.Causes.{Rose}
use Rattle.hx_cmd_check.proofs.OneFault.{one_fault}
use Rattle.hx_cmd_check.proofs.laws.one_fault.Goals as goal

pub returns : goal.returns
returns c = λ input left other_left before now. one_fault input (Rose before now) left other_left
