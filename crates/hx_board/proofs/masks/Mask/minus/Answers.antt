use Rattle.hx_board.specs.Sets.{difference}
use Rattle.hx_board.proofs.SetLaws.{has-difference}
use Rattle.hx_board.proofs.masks.Mask.minus.Goals as goal

pub returns-clause-members : goal.returns-clause-members
unfolding difference
returns-clause-members c = λ n. rw (← c.self.view_is, ← c.other.view_is) (has-difference _ _ n)
