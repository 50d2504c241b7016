use Rattle.hx_openings.proofs.OpeningLaws.{won_by_an_opening}
use Rattle.hx_openings.proofs.laws.first_player.Goals as goal

pub returns : goal.returns
returns c = won_by_an_opening c.args.size (rw (c.empty-empty.ensures) at c.size-size.ensures.valid).0
