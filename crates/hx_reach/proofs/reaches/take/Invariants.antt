use Rattle.std.proofs.Common.{◌≡◌}
use Rattle.hx_reach.proofs.reaches.take.Given as goal

abbrev pub invariant-loop : goal.invariant-loop
invariant-loop l = l.set ≡ l.initial.set
