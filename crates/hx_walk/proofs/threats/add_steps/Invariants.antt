use Rattle.hx_dfpn.specs.Keeps.{StandsAgain}
use Rattle.hx_walk.proofs.threats.add_steps.Given as goal

abbrev pub invariant-loop-step : goal.invariant-loop-step
invariant-loop-step l = StandsAgain l.fn.set l.set
