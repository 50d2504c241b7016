use Rattle.std.proofs.Common.{◌≡◌, ◌-◌, ◌≤◌, length}
use Rattle.hx_linkset.specs.Touches.{TouchedAreLogged}
use Rattle.hx_linkset.proofs.touches.Touched.first_from.Given as goal

abbrev pub invariant-loop-at : goal.invariant-loop-at
invariant-loop-at l = record {
  same : l.self ≡ l.fn.self;
  order : l.from ≤ l.at;
  before : TouchedAreLogged l.fn.self l.log l.from l.at;
}

abbrev pub decreases-loop-at : goal.decreases-loop-at
decreases-loop-at l = length l.fn.self.links - l.at
