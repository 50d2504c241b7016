use Rattle.hx_fill.specs.Unders.{HoldDominated}
use Rattle.hx_fill.proofs.candidates.candidates_of.Given as goal

abbrev pub invariant-loop-worse : goal.invariant-loop-worse
invariant-loop-worse l = HoldDominated l.both.position l.both.mover l.cells l.worse-iterator.cells l.found
