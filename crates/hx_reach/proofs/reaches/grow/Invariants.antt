use Rattle.hx_reach.specs.Growth.{IsGrown}
use Rattle.hx_reach.proofs.reaches.grow.Given as goal

abbrev pub invariant-loop-cells : goal.invariant-loop-cells
invariant-loop-cells l = IsGrown l.initial.set l.set
