use Rattle.std.proofs.Common.{◌≡◌, ◌≤◌, length, reverse, drop, take}
use Rattle.hx_linkset.specs.Held.{CanRelink, relinked_all}
use Rattle.hx_linkset.proofs.passes.put_back.Given as goal

abbrev pub invariant-loop-log : goal.invariant-loop-log
invariant-loop-log l = record {
  base : l.fn.kept ≤ length l.log;
  same_length : length l.chains.next ≡ length l.initial.chains.next;
  can : CanRelink l.chains (reverse (drop l.fn.kept l.log));
  same : relinked_all l.chains (reverse (drop l.fn.kept l.log)) ≡ relinked_all l.initial.chains
      (reverse (drop l.fn.kept l.initial.log));
  rest : take l.fn.kept l.log ≡ take l.fn.kept l.initial.log;
}

abbrev pub decreases-loop-log : goal.decreases-loop-log
decreases-loop-log l = length l.log
