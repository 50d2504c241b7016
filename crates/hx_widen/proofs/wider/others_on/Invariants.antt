use Rattle.hx_widen.proofs.MissingStones.{IsFilling}
use Rattle.hx_widen.proofs.wider.others_on.Given as goal

abbrev pub invariant-loop-cell : goal.invariant-loop-cell
invariant-loop-cell l = IsFilling l.fn.position l.fn.winner l.fn.cells l.cell-iterator.cells l.steps.items
