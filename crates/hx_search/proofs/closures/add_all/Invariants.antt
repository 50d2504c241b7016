use Rattle.std.proofs.Common.{◌-◌, length}
use Rattle.hx_reach.specs.Growth.{IsGrown}
use Rattle.hx_search.specs.Progress.{AreBasesBelow, AreRowsSettled}
use Rattle.hx_search.proofs.closures.add_all.Given as goal

abbrev pub invariant-loop-set : goal.invariant-loop-set
invariant-loop-set l = record {
  grown : IsGrown l.initial.set l.set;
  bases : AreBasesBelow l.set 123;
  rows : AreRowsSettled l.set l.settled;
}

abbrev pub decreases-loop-set : goal.decreases-loop-set
decreases-loop-set l = 8193 - length l.set.present.links
