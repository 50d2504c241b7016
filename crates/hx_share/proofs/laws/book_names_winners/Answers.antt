use Rattle.hx_share.proofs.FoundLaws.{all-win}
use Rattle.hx_share.proofs.laws.book_names_winners.Goals as goal

pub returns : goal.returns
returns c = all-win c.args.book.now.nodes c.keeps.ensures.book.right
