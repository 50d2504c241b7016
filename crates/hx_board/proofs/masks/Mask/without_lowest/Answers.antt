use Rattle.std.proofs.Common.{◌-◌}
use Rattle.hx_board.specs.Sets.{intersection}
use Rattle.hx_board.proofs.SetLaws.{has-intersection_right}
use Rattle.hx_board.proofs.Lowest.{remove-lowest, some_one}
use Rattle.hx_board.proofs.masks.Mask.without_lowest.Goals as goal

pub overflow_sub-result : goal.overflow_sub-result
overflow_sub-result c = some_one _ _ c.self.view_is c.requires

pub returns-clause-lowest : goal.returns-clause-lowest
returns-clause-lowest c = rw (← c.self.view_is) (remove-lowest c.self.inside.bits)

pub returns-clause-inside : goal.returns-clause-inside
unfolding intersection
returns-clause-inside c = λ n h. rw (← c.self.view_is) (has-intersection_right (c.self.inside.bits - 1) c.self.inside.bits n h)
