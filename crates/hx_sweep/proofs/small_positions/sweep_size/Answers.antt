use Rattle.std.proofs.Common.{refl, arith}
use Rattle.hx_board.specs.Counts.{sweep_size}
use Rattle.hx_sweep.proofs.SweepSizes.{size-more, size-small}
use Rattle.hx_sweep.proofs.small_positions.sweep_size.Goals as goal

pub loop-fewer-init : goal.loop-fewer-init
unfolding sweep_size
loop-fewer-init c = refl

pub overflow_mul-size : goal.overflow_mul-size
overflow_mul-size c =
    omega (arith, size-small c.loop-fewer.fewer c.from.result c.loop-fewer.size (omega arith) c.loop-fewer.invariant c.from.ensures)

pub overflow_add-size-in-loop-fewer : goal.overflow_add-size-in-loop-fewer
overflow_add-size-in-loop-fewer c =
    omega (arith, size-small c.loop-fewer.fewer c.from.result c.loop-fewer.size (omega arith) c.loop-fewer.invariant c.from.ensures)

pub loop-fewer-preserved : goal.loop-fewer-preserved
loop-fewer-preserved c = size-more c.loop-fewer.fewer c.from.result c.loop-fewer.size c.loop-fewer.invariant c.from.ensures
