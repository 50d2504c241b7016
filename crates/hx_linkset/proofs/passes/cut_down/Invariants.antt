use Rattle.std.proofs.Common.{◌≡◌, ◌≤◌, ◌+◌, ◌-◌, length}
use Rattle.hx_linkset.specs.History.{CanCut, cut_times}
use Rattle.hx_linkset.proofs.passes.cut_down.Given as goal

abbrev pub invariant-loop-left : goal.invariant-loop-left
invariant-loop-left l = record {
  least : l.kept ≤ l.left;
  most : l.left ≤ l.held;
  long : length l.chains.next ≡ 30258 + l.left;
  can : CanCut (l.left - l.kept) l.chains;
  same : cut_times (l.left - l.kept) l.chains ≡ cut_times (l.held - l.kept) l.initial.chains;
}

abbrev pub decreases-loop-left : goal.decreases-loop-left
decreases-loop-left l = l.left - l.kept
