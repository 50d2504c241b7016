use Rattle.hx_board.proofs.NearLaws.{touches-one}
use Rattle.hx_board.proofs.shifts.neighbour_set.Goals as goal

pub returns : goal.returns
returns c = touches-one _ _ _ c.requires (rw (c.with.ensures.set, c.empty.ensures) at c.around.ensures)
