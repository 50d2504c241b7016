use Rattle.std.proofs.Common.{take}
use Rattle.hx_link.specs.Named.{PartsSoFar}
use Rattle.hx_link.proofs.ors.read_parts.Given as goal

abbrev pub invariant-loop-place : goal.invariant-loop-place
invariant-loop-place l = PartsSoFar l.before (take l.place-index l.places) l.fn.a l.fn.b l.fn.start l.in_all l.in_some
