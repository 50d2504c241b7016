use Rattle.hx_search.specs.Progress.{PassedSoFar, AreForksBelow}
use Rattle.hx_search.proofs.ors.join_all.Given as goal

abbrev pub invariant-loop-code : goal.invariant-loop-code
invariant-loop-code l = PassedSoFar l.initial.set l.set l.more (AreForksBelow l.set l.code)
