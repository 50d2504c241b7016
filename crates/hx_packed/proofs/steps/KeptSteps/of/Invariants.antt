use Rattle.std.proofs.Common.{◌≡◌, take}
use Rattle.hx_packed.proofs.steps.KeptSteps.of.Given as goal

abbrev pub invariant-loop-step : goal.invariant-loop-step
invariant-loop-step l = l.kept ≡ take l.step-index l.steps
