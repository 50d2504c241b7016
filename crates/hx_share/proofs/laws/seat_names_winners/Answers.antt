use Rattle.hx_share.proofs.FoundLaws.{all-win}
use Rattle.hx_share.proofs.laws.seat_names_winners.Goals as goal

pub returns : goal.returns
returns c = all-win c.args.seat.now.seen c.keeps.ensures.right
