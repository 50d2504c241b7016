use Rattle.hx_board.proofs.GroupLaws.{over_none, start-vertex, waiting-falls, over_next, over_all}
use Rattle.hx_board.proofs.tables.join_groups.Goals as goal

pub flood-reach-requires : goal.flood-reach-requires
flood-reach-requires c =
    start-vertex _ _ c.own-waiting.ensures.valid.0 _ c.own-waiting.ensures.own _ _ _ c.loop-start.invariant c.in-Some.ensures.first.member
    c.in-Some.ensures.some

pub loop-start-init : goal.loop-start-init
loop-start-init c = over_none _ _ c.own-waiting.ensures.valid.0 _ c.own-waiting.ensures.own _ c.requires

pub loop-start-preserved : goal.loop-start-preserved
loop-start-preserved c =
    rw c.minus-waiting.ensures.set
    (over_next _ _ c.own-waiting.ensures.valid.0 _ c.own-waiting.ensures.own _ _ _ c.loop-start.invariant c.in-Some.ensures.first.member
    c.in-Some.ensures.some _ c.flood-reach.ensures _ c.join_all.ensures.len c.join_all.ensures.sets)

pub loop-start-smaller : goal.loop-start-smaller
loop-start-smaller c =
    rw c.minus-waiting.ensures.set
    (waiting-falls _ _ c.own-waiting.ensures.valid.0 _ c.own-waiting.ensures.own _ _ _ c.loop-start.invariant c.in-Some.ensures.first.member
    c.in-Some.ensures.some _ c.flood-reach.ensures)

pub returns : goal.returns
returns c = over_all _ _ c.own-waiting.ensures.valid.0 _ c.own-waiting.ensures.own _ _ c.in_default.ensures.first c.loop-start.invariant
    c.own-waiting.ensures.valid
