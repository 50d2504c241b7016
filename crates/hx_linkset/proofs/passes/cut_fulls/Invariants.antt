use Rattle.std.proofs.Common.{◌≤◌, take, length}
use Rattle.hx_linkset.specs.Fulls.{AreFullLists}
use Rattle.hx_linkset.proofs.passes.cut_fulls.Given as goal

abbrev pub invariant-loop-left : goal.invariant-loop-left
invariant-loop-left l = record {
  least : l.kept ≤ l.left;
  most : l.left ≤ length l.links;
  lists : AreFullLists (take l.left l.links) l.fulls;
}

abbrev pub decreases-loop-left : goal.decreases-loop-left
decreases-loop-left l = l.left
