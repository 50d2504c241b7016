use Rattle.std.proofs.Common.{◌≡◌, take}
use Rattle.hx_fill.specs.Fills.{winner_steps_all}
use Rattle.hx_fill.proofs.winners_steps.steps_for.Given as goal

abbrev pub invariant-loop-fill : goal.invariant-loop-fill
invariant-loop-fill l = l.steps.items ≡ winner_steps_all l.winner (take l.fill-index l.filled.steps.items)
