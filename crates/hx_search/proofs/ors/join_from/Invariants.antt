use Rattle.hx_search.specs.Progress.{PassedSoFar, AreForksOf}
use Rattle.hx_search.proofs.ors.join_from.Given as goal

abbrev pub invariant-loop-code : goal.invariant-loop-code
invariant-loop-code l = PassedSoFar l.initial.set l.set l.more (AreForksOf l.set l.fn.a l.fn.from l.code)
