use Rattle.hx_board.proofs.Lowest.{lowest-is}
use Rattle.hx_board.proofs.masks.Mask.lowest.Goals as goal

pub returns-else-bits-eq0 : goal.returns-else-bits-eq0
returns-else-bits-eq0 c = lowest-is _ _ c.bits-bits.ensures c.if-bits-eq0.false c.bits-bits.type_inv
