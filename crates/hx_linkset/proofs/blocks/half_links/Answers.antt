use Rattle.std.proofs.Common.{◌<◌, arith}
use Rattle.hx_linkset.proofs.BlockLaws.{read-next, read-all}
use Rattle.hx_linkset.proofs.blocks.half_links.Goals as goal

pub loop-left-preserved : goal.loop-left-preserved
loop-left-preserved c =
    let fits : c.loop-left.left < 18446744073709551616 = omega arith in
    read-next _ _ _ c.loop-left.left _ c.loop-left-test.true fits c.loop-left.invariant

pub returns : goal.returns
returns c = read-all _ _ _ _ _ c.loop-left-test.false c.loop-left.invariant
