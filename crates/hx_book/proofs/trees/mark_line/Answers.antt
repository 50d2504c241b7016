use Rattle.std.proofs.Common.{refl}
use Rattle.hx_book.proofs.trees.mark_line.Goals as goal

pub mark-requires : goal.mark-requires
mark-requires c = c.requires c.in-Child.child (rw c.in-Child.is refl)
