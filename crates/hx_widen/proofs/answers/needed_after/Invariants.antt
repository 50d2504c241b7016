use Rattle.hx_book.specs.Sights.{Grows}
use Rattle.hx_widen.proofs.answers.needed_after.Given as goal

abbrev pub invariant-loop : goal.invariant-loop
invariant-loop g l = Grows (g.P.Proofs.sight l.fn.proofs) (g.P.Proofs.sight l.proofs)
