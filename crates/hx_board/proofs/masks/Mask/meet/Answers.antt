use Rattle.hx_board.specs.Sets.{intersection}
use Rattle.hx_board.proofs.SetLaws.{has-intersection}
use Rattle.hx_board.proofs.masks.Mask.meet.Goals as goal

pub returns-clause-members : goal.returns-clause-members
unfolding intersection
returns-clause-members c = λ n. rw (← c.self.view_is, ← c.other.view_is) (has-intersection _ _ n)
