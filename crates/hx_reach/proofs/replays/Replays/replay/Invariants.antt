use Rattle.hx_reach.specs.Growth.{IsGrown}
use Rattle.hx_reach.proofs.replays.Replays.replay.Given as goal

abbrev pub invariant-loop-place : goal.invariant-loop-place
invariant-loop-place l = IsGrown l.initial.set l.set
