use Rattle.hx_board.specs.Cells.{OnBoard}
use Rattle.hx_fill.proofs.CandidateLaws.{AreAdded}
use Rattle.hx_fill.proofs.candidates.add_to_each.Given as goal

abbrev pub invariant-loop-place : goal.invariant-loop-place
invariant-loop-place l = AreAdded (OnBoard l.fn.size) l.fn.places l.cell l.fn.sets l.sets l.place-iterator.cells
