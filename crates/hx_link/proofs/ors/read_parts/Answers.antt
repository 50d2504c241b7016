use Rattle.hx_link.proofs.PartLaws.{no_parts, parts_next, no_semi, parts_all}
use Rattle.hx_link.proofs.ors.read_parts.Goals as goal

pub loop-place-init : goal.loop-place-init
loop-place-init c = rw c.empty-in_some.ensures (no_parts c.args.before.now c.args.a.now c.args.b.now c.args.start)

pub returns-in_default : goal.returns-in_default
returns-in_default c = no_semi _ _ c.loop-place.place-index _ _ c.loop-place-test.true c.in_default.ensures

pub loop-place-preserved : goal.loop-place-preserved
loop-place-preserved c =
    parts_next _ _ c.loop-place.place-index _ _ _ _ _ c.in-Some.carrier _ _ c.loop-place-test.true c.meet-in_all.ensures.set
    c.union-in_some.ensures.set c.loop-place.invariant c.in-Some.ensures

pub returns : goal.returns
returns c = parts_all _ _ c.loop-place.place-index _ _ _ _ _ c.loop-place-test.false c.loop-place.invariant
