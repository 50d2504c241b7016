use Rattle.hx_htp.proofs.Naming.{winners_named}
use Rattle.hx_htp.proofs.laws.named_players_win.Goals as goal

pub returns : goal.returns
returns c = winners_named
