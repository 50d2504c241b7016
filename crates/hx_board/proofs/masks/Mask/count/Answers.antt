use Rattle.hx_board.proofs.Counts.{count_ones-is}
use Rattle.hx_board.proofs.masks.Mask.count.Goals as goal

pub returns : goal.returns
returns c = rw c.bits.ensures (count_ones-is c.args.self (rw c.bits.ensures at c.bits.type_inv))
