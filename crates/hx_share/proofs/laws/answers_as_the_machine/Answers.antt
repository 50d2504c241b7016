use Rattle.hx_share.proofs.FoundLaws.{looks-machine, stores-machine}
use Rattle.hx_share.proofs.laws.answers_as_the_machine.Goals as goal

pub returns : goal.returns
returns c = record { look = looks-machine; store = stores-machine }
