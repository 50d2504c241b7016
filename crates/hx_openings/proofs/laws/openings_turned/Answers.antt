use Rattle.hx_openings.proofs.OpeningLaws.{turned_has_the_winner}
use Rattle.hx_openings.proofs.laws.openings_turned.Goals as goal

pub returns : goal.returns
returns c = turned_has_the_winner c.args.size (rw (c.empty-empty.ensures) at c.size-size.ensures.valid).0 c.args.cell c.requires
