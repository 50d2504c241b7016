use Rattle.std.proofs.Common.{◌-◌, length}
use Rattle.hx_linkset.specs.Derivations.{AreKeptBelow}
use Rattle.hx_linkset.proofs.derivations.kept_for.Given as goal

abbrev pub invariant-loop-place : goal.invariant-loop-place
invariant-loop-place l =
    AreKeptBelow l.fn.player
    (record { board = l.position; links = l.links; steps = l.steps }) l.wanted.marks.items l.bound l.kept.items l.names.items

abbrev pub decreases-loop-place : goal.decreases-loop-place
decreases-loop-place l = length l.links - l.bound
