use Rattle.std.proofs.Common.{arith}
use Rattle.hx_reach.proofs.GrowthLaws.{grown-itself, grown-on}
use Rattle.hx_reach.proofs.reaches.take_all.Goals as goal

pub loop-index-init : goal.loop-index-init
loop-index-init c = grown-itself c.args.set.now

pub returns-in_default : goal.returns-in_default
returns-in_default c = grown-on _ _ _ c.loop-index.invariant c.take.ensures.grown

pub returns-then-is_last : goal.returns-then-is_last
returns-then-is_last c = grown-on _ _ _ c.loop-index.invariant c.take.ensures.grown

pub returns-then-is_err : goal.returns-then-is_err
returns-then-is_err c = grown-on _ _ _ c.loop-index.invariant c.take.ensures.grown

pub loop-index-preserved : goal.loop-index-preserved
loop-index-preserved c = grown-on _ _ _ c.loop-index.invariant c.take.ensures.grown

pub returns-in-Ok-NoMore : goal.returns-in-Ok-NoMore
returns-in-Ok-NoMore c = grown-on _ _ _ c.loop-index.invariant c.take.ensures.grown

pub returns-in-Ok-Full : goal.returns-in-Ok-Full
returns-in-Ok-Full c = grown-on _ _ _ c.loop-index.invariant c.take.ensures.grown

pub returns-in-Err : goal.returns-in-Err
returns-in-Err c = grown-on _ _ _ c.loop-index.invariant c.take.ensures.grown

pub loop-index-smaller : goal.loop-index-smaller
loop-index-smaller c =
    let longer = rw c.in-Ok-New.field-0-is at c.in-Ok-New.ensures.longer in
    omega (arith, longer.0, longer.1)
