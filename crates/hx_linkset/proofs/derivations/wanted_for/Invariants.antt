use Rattle.std.proofs.Common.{◌+◌, ◌≤◌, length}
use Rattle.hx_linkset.specs.Derivations.{AreClosedFrom, AreMarkedUnder}
use Rattle.hx_linkset.proofs.derivations.wanted_for.Given as goal

abbrev pub invariant-loop-place : goal.invariant-loop-place
invariant-loop-place l = record {
  closed : AreClosedFrom l.fn.player (record { board = l.position; links = l.links; steps = l.steps }) l.bound l.marks.items;
  named : AreMarkedUnder l.named l.marks.items;
  count : l.count + l.bound ≤ length l.links;
}

abbrev pub decreases-loop-place : goal.decreases-loop-place
decreases-loop-place l = l.bound
