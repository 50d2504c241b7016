use Rattle.std.proofs.Common.{refl, arith}
use Rattle.hx_pn.proofs.ChildLaws.{new_is_best, old_is_best}
use Rattle.hx_pn.proofs.descents.better.Goals as goal

pub returns-then-child-best : goal.returns-then-child-best
returns-then-child-best c = λ seen before place is. new_is_best seen c.args.child c.args.best is before _ (omega arith) place refl refl

pub returns-else-child-best : goal.returns-else-child-best
returns-else-child-best c = λ seen before place is.
    old_is_best seen c.args.child c.args.best is before _ (omega arith) refl refl c.min.ensures
