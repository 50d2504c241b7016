use Rattle.hx_reach.proofs.GrowthLaws.{grown-itself, grown-on}
use Rattle.hx_reach.proofs.replays.Replays.replay.Goals as goal

pub returns-in_default : goal.returns-in_default
returns-in_default c = grown-itself c.args.set.now

pub loop-place-init : goal.loop-place-init
loop-place-init c = grown-itself c.args.set.now

pub loop-place-preserved : goal.loop-place-preserved
loop-place-preserved c = grown-on _ _ _ c.loop-place.invariant c.add_at.ensures

pub returns-in-Ok-false : goal.returns-in-Ok-false
returns-in-Ok-false c = grown-on _ _ _ c.loop-place.invariant c.add_at.ensures

pub returns-in-Err : goal.returns-in-Err
returns-in-Err c = grown-on _ _ _ c.loop-place.invariant c.add_at.ensures
