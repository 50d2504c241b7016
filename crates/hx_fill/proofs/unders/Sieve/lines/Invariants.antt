use Rattle.hx_board.specs.Sets.{difference}
use Rattle.hx_fill.specs.Unders.{AreLinesFor}
use Rattle.hx_fill.proofs.unders.Sieve.lines.Given as goal

abbrev pub invariant-loop-cell : goal.invariant-loop-cell
invariant-loop-cell l = AreLinesFor l.self.choices (difference l.self.cells l.self.without_line) l.cell-iterator.cells l.lines.items
