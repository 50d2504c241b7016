use Rattle.hx_book.specs.Sights.{Grows}
use Rattle.hx_widen.proofs.answers.store_each.Given as goal

abbrev pub invariant-loop-cell : goal.invariant-loop-cell
invariant-loop-cell g l = Grows (g.P.Proofs.sight l.fn.proofs) (g.P.Proofs.sight l.proofs)
