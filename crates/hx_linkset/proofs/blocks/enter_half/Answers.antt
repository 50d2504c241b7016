use Rattle.std.proofs.Common.{◌<◌, arith}
use Rattle.hx_linkset.proofs.BlockLaws.{entered-next, entered-all}
use Rattle.hx_linkset.proofs.blocks.enter_half.Goals as goal

pub loop-left-preserved : goal.loop-left-preserved
loop-left-preserved c =
    let fits : c.loop-left.left < 18446744073709551616 = omega arith in
    entered-next _ _ _ _ _ c.loop-left.left c.requires.number c.requires.fits c.loop-left-test.true fits
    c.loop-left.invariant

pub returns-clause-entered : goal.returns-clause-entered
returns-clause-entered c = entered-all _ _ _ _ _ _ c.loop-left-test.false c.loop-left.invariant
