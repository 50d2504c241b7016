use Rattle.std.proofs.Common.{◌≡◌, length}
use Rattle.hx_linkset.specs.Fulls.{live_from}
use Rattle.hx_linkset.proofs.fulls.FullIterIterator.next.Given as goal

abbrev pub invariant-loop-full : goal.invariant-loop-full
invariant-loop-full l = live_from l.self-inside.empties l.self-inside.ends l.self-inside.rest.now ≡ l.fn.self

abbrev pub decreases-loop-full : goal.decreases-loop-full
decreases-loop-full l = length l.self-inside.rest.now
