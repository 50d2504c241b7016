use Rattle.std.proofs.Common.{refl}
use Rattle.hx_board.proofs.SetLaws.{remove-by_shift, has-remove}
use Rattle.hx_board.proofs.masks.Mask.excluding.Goals as goal

pub returns-clause-set : goal.returns-clause-set
returns-clause-set c = remove-by_shift _ _ _ _ c.self.view_is refl c.requires

pub returns-clause-members : goal.returns-clause-members
returns-clause-members c = λ n. rw (remove-by_shift _ _ _ _ c.self.view_is refl c.requires) (has-remove c.args.self c.args.place n)
