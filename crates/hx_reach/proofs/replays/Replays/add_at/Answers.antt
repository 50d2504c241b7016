use Rattle.hx_reach.proofs.GrowthLaws.{grown-itself, grown-same, put-grown}
use Rattle.hx_reach.proofs.replays.Replays.add_at.Goals as goal

pub returns-in-Ok-None : goal.returns-in-Ok-None
returns-in-Ok-None c = grown-itself c.args.set.now

pub returns-in-Err : goal.returns-in-Err
returns-in-Err c = grown-itself c.args.set.now

pub returns-in-Ok-New : goal.returns-in-Ok-New
returns-in-Ok-New c =
    put-grown c.args.set.now c.add_unlooked.new.self _ _ (rw c.in-Ok-New.field-0-is at c.in-Ok-New.ensures.added)

pub returns-in-Ok-Covered : goal.returns-in-Ok-Covered
returns-in-Ok-Covered c = absurd (rw c.in-Ok-Covered.field-0-is at c.in-Ok-Covered.ensures.added)

pub returns-in-Ok-Refused : goal.returns-in-Ok-Refused
returns-in-Ok-Refused c =
    let same = rw c.in-Ok-Refused.field-0-is at c.in-Ok-Refused.ensures.added in
    grown-same c.args.set.now c.add_unlooked.new.self same.same

pub returns-in-Ok-Limit : goal.returns-in-Ok-Limit
returns-in-Ok-Limit c =
    let same = rw c.in-Ok-Limit.field-0-is at c.in-Ok-Limit.ensures.added in
    grown-same c.args.set.now c.add_unlooked.new.self same.same

pub returns-in-Err-add_unlooked : goal.returns-in-Err-add_unlooked
returns-in-Err-add_unlooked c = grown-same c.args.set.now c.add_unlooked.new.self c.in-Err-add_unlooked.ensures.memory
