-- The best of the children before the place, of which there is one at least.
use Rattle.std.proofs.Common.{take}
use Rattle.hx_pn.specs.Numbers.{IsBest}
use Rattle.hx_pn.proofs.descents.best_of.Given as goal

abbrev pub invariant-loop-place : goal.invariant-loop-place
invariant-loop-place l = IsBest (take l.place l.children) l.best
