use Rattle.std.proofs.Common.{◌≡◌, take}
use Rattle.hx_demo.specs.DrawnPositions.{cells_in_order}
use Rattle.hx_demo.proofs.draws.cells_in_order.Given as goal

abbrev pub invariant-loop-place : goal.invariant-loop-place
invariant-loop-place l = l.cells.items ≡ take l.place cells_in_order
