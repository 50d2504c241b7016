use Rattle.std.proofs.Common.{◌≡◌, take}
use Rattle.hx_packed.proofs.steps.KeptSteps.steps.Given as goal

abbrev pub invariant-loop-kept : goal.invariant-loop-kept
invariant-loop-kept l = l.made.items ≡ take l.kept-index l.self
