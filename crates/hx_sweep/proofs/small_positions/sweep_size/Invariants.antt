use Rattle.std.proofs.Common.{◌≡◌}
use Rattle.hx_board.specs.Counts.{sweep_size}
use Rattle.hx_sweep.proofs.small_positions.sweep_size.Given as goal

abbrev pub invariant-loop-fewer : goal.invariant-loop-fewer
invariant-loop-fewer l = l.size ≡ sweep_size l.fewer
