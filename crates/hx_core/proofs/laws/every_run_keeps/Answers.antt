use Rattle.hx_core.proofs.RunLaws.{every_run-keeps, every_run-gives_a_tree}
use Rattle.hx_core.proofs.laws.every_run_keeps.Goals as goal

pub returns : goal.returns
returns c = record { kept = every_run-keeps; tree = every_run-gives_a_tree }
