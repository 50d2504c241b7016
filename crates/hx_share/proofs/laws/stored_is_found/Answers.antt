use Rattle.hx_share.proofs.FoundLaws.{stored-found, stored-winner, later-on}
use Rattle.hx_share.proofs.laws.stored_is_found.Goals as goal

pub returns : goal.returns
returns c = record { index = stored-found; winner = stored-winner; later = later-on }
