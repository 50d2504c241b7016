use Rattle.std.proofs.Common.{◌≤◌, vec_capacity}
use Rattle.hx_linkset.specs.Held.{LeadToThemselves}
use Rattle.hx_linkset.proofs.chains.heads.Given as goal

abbrev pub invariant-loop-head : goal.invariant-loop-head
invariant-loop-head l = record {
  so_far : LeadToThemselves l.head l.heads.items;
  room : 30258 ≤ vec_capacity l.heads;
}
