use Rattle.std.proofs.Common.{◌-◌}
use Rattle.hx_reach.specs.Growth.{IsGrown}
use Rattle.hx_search.specs.Progress.{AreRowsSettled}
use Rattle.hx_search.proofs.ands.settle_ands.Given as goal

abbrev pub invariant-loop-right : goal.invariant-loop-right
invariant-loop-right l = record {
  grown : IsGrown l.initial.set l.set;
  settled : AreRowsSettled l.set l.right;
}

abbrev pub decreases-loop-right : goal.decreases-loop-right
decreases-loop-right l = 8193 - l.right
