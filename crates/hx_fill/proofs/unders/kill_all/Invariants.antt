use Rattle.hx_fill.specs.Unders.{AreKilled}
use Rattle.hx_fill.proofs.unders.kill_all.Given as goal

abbrev pub invariant-loop-worse : goal.invariant-loop-worse
invariant-loop-worse l = AreKilled l.both.position l.both.mover l.better l.fn.cells l.worse-iterator.cells l.fn.choices l.choices l.killed
