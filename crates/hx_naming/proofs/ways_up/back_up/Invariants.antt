use Rattle.std.proofs.Common.{length}
use Rattle.hx_naming.proofs.ways_up.back_up.Given as goal

abbrev pub invariant-loop-above : goal.invariant-loop-above
invariant-loop-above l = Unit {0}

abbrev pub decreases-loop-above : goal.decreases-loop-above
decreases-loop-above l = length l.passed.items
