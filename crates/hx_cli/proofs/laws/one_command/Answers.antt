use Rattle.hx_cli.proofs.CommandWords.{Asks-one}
use Rattle.hx_cli.proofs.laws.one_command.Goals as goal

pub returns : goal.returns
returns c = λ words a b p q. Asks-one words a b p q
