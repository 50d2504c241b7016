use Rattle.std.proofs.Common.{◌-◌, length}
use Rattle.hx_reach.specs.Growth.{IsGrown}
use Rattle.hx_reach.proofs.reaches.take_all.Given as goal

abbrev pub invariant-loop-index : goal.invariant-loop-index
invariant-loop-index l = IsGrown l.initial.set l.set

abbrev pub decreases-loop-index : goal.decreases-loop-index
decreases-loop-index l = 8193 - length l.set.present.links
