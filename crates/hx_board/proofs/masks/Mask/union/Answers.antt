use Rattle.hx_board.specs.Sets.{union}
use Rattle.hx_board.proofs.SetLaws.{has-union}
use Rattle.hx_board.proofs.masks.Mask.union.Goals as goal

pub returns-clause-members : goal.returns-clause-members
unfolding union
returns-clause-members c = λ n. rw (← c.self.view_is, ← c.other.view_is) (has-union _ _ n)
