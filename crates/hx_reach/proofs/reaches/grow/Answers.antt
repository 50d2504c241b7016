use Rattle.hx_reach.proofs.GrowthLaws.{grown-itself, grown-on}
use Rattle.hx_reach.proofs.reaches.grow.Goals as goal

pub loop-cells-init : goal.loop-cells-init
loop-cells-init c = grown-itself c.args.set.now

pub loop-cells-preserved : goal.loop-cells-preserved
loop-cells-preserved c = grown-on _ _ _ c.loop-cells.invariant c.take_all.ensures

pub returns-in-Ok-Ended : goal.returns-in-Ok-Ended
returns-in-Ok-Ended c = grown-on _ _ _ c.loop-cells.invariant c.take_all.ensures

pub returns-in-Err : goal.returns-in-Err
returns-in-Err c = grown-on _ _ _ c.loop-cells.invariant c.take_all.ensures
