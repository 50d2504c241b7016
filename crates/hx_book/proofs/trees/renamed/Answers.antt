use Rattle.std.proofs.Common.{refl}
use Rattle.hx_book.proofs.trees.renamed.Goals as goal

pub bounds-names-child : goal.bounds-names-child
bounds-names-child c = c.requires c.in-Move.child (rw c.in-Move.is refl)

pub renamed_lines-requires : goal.renamed_lines-requires
renamed_lines-requires c = λ place has. c.requires place (rw c.in-All.is has)

pub bounds-names-child-in-Fill : goal.bounds-names-child-in-Fill
bounds-names-child-in-Fill c = c.requires c.in-Fill.child (rw c.in-Fill.is refl)

pub bounds-names-child-in-Turned : goal.bounds-names-child-in-Turned
bounds-names-child-in-Turned c = c.requires c.in-Turned.child (rw c.in-Turned.is refl)
