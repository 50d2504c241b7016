use Rattle.std.proofs.Common.{refl}
use Rattle.hx_board.proofs.SetLaws.{insert-by_shift, has-insert}
use Rattle.hx_board.proofs.masks.Mask.including.Goals as goal

pub returns-clause-set : goal.returns-clause-set
returns-clause-set c = insert-by_shift _ _ _ _ c.self.view_is refl c.requires

pub returns-clause-members : goal.returns-clause-members
returns-clause-members c = λ n. rw (insert-by_shift _ _ _ _ c.self.view_is refl c.requires) (has-insert c.args.self c.args.place n)
