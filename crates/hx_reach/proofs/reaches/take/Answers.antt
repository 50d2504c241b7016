use Rattle.std.proofs.Common.{refl, ◌∙◌, arith}
use Rattle.hx_reach.proofs.GrowthLaws.{grown-on, grown-same, put-grown, put-longer}
use Rattle.hx_reach.proofs.reaches.take.Goals as goal

pub loop-init : goal.loop-init
loop-init c = refl

pub returns-in_default-clause-grown : goal.returns-in_default-clause-grown
returns-in_default-clause-grown c = grown-same c.args.set.now c.loop.set c.loop.invariant

pub returns-in-Err-clause-grown : goal.returns-in-Err-clause-grown
returns-in-Err-clause-grown c = grown-same c.args.set.now c.loop.set c.loop.invariant

pub returns-clause-grown : goal.returns-clause-grown
returns-clause-grown c = grown-same c.args.set.now c.loop.set c.loop.invariant

pub returns-in-Ok-New-clause-grown : goal.returns-in-Ok-New-clause-grown
returns-in-Ok-New-clause-grown c =
    grown-on _ _ _ (grown-same c.args.set.now c.loop.set c.loop.invariant)
    (put-grown c.loop.set c.add_unlooked.new.self _ _ (rw c.in-Ok-New.field-0-is at c.in-Ok-New.ensures.added))

pub returns-in-Ok-New-clause-longer : goal.returns-in-Ok-New-clause-longer
returns-in-Ok-New-clause-longer c =
    let added = rw c.in-Ok-New.field-0-is at c.in-Ok-New.ensures.added in
    let longer = put-longer c.loop.set c.add_unlooked.new.self _ _ added in
    let before = grown-same c.args.set.now c.loop.set c.loop.invariant in
    (omega (arith, before.longer, longer), omega (arith, longer, added.place_is, added.small))

pub returns-in-Ok-Limit-clause-grown : goal.returns-in-Ok-Limit-clause-grown
returns-in-Ok-Limit-clause-grown c =
    let added = rw c.in-Ok-Limit.field-0-is at c.in-Ok-Limit.ensures.added in
    grown-same c.args.set.now c.add_unlooked.new.self (added.same ∙ c.loop.invariant)

pub returns-in-Err-add_unlooked-clause-grown : goal.returns-in-Err-add_unlooked-clause-grown
returns-in-Err-add_unlooked-clause-grown c =
    grown-same c.args.set.now c.add_unlooked.new.self (c.in-Err-add_unlooked.ensures.memory ∙ c.loop.invariant)
