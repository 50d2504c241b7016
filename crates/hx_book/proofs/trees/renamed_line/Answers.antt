use Rattle.std.proofs.Common.{refl}
use Rattle.hx_book.proofs.trees.renamed_line.Goals as goal

pub bounds-names-child : goal.bounds-names-child
bounds-names-child c = c.requires c.in-Child.child (rw c.in-Child.is refl)
