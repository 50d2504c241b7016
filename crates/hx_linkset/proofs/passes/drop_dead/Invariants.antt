use Rattle.std.proofs.Common.{◌≡◌, ◌-◌, ◌≤◌, length}
use Rattle.hx_linkset.specs.Held.{IsPassed}
use Rattle.hx_linkset.proofs.passes.drop_dead.Given as goal

abbrev pub invariant-loop-place : goal.invariant-loop-place
invariant-loop-place l = record {
  touched : l.touched ≡ l.initial.touched;
  within : l.from ≤ length l.links;
  passed : IsPassed l.links l.before l.after l.fn.player l.from l.initial.chains l.chains l.initial.log l.log;
}

abbrev pub decreases-loop-place : goal.decreases-loop-place
decreases-loop-place l = length l.links - l.from
