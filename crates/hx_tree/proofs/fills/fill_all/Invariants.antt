-- From the position so far, the rest of the steps comes to what they all come to.
use Rattle.hx_tree.proofs.FillLaws.{ComesToSame}
use Rattle.hx_tree.proofs.fills.fill_all.Given as goal

abbrev pub invariant-loop-step : goal.invariant-loop-step
invariant-loop-step l = ComesToSame l.position l.fn.winner l.steps l.step-index l.filled
