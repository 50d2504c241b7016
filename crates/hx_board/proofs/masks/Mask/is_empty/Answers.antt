use Rattle.hx_board.proofs.CountLaws.{some_member}
use Rattle.hx_board.proofs.masks.Mask.is_empty.Goals as goal

pub returns-clause-some : goal.returns-clause-some
returns-clause-some c = some_member c.args.self _ c.bits.ensures c.bits.type_inv
