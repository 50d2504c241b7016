use Rattle.hx_reach.proofs.GrowthLaws.{grown-on}
use Rattle.hx_reach.proofs.reaches.add_or_replay.Goals as goal

pub returns-then-is_ok : goal.returns-then-is_ok
returns-then-is_ok c = grown-on _ _ _ c.replay.ensures c.add_useful-added.ensures

pub returns-else-is_ok : goal.returns-else-is_ok
returns-else-is_ok c = grown-on _ _ _ c.replay.ensures c.add_useful-added.ensures
