use Rattle.std.proofs.Common.{◌<◌, length, refl}
use Rattle.hx_board.proofs.SetLaws.{remove-lt}
use Rattle.hx_board.proofs.Lowest.{some_member}
use Rattle.hx_board.proofs.GroupLaws.{joined_none, joined_more, joined_all, read-is}
use Rattle.hx_board.proofs.tables.join_all.Goals as goal

pub without_lowest-waiting-requires : goal.without_lowest-waiting-requires
without_lowest-waiting-requires c = some_member _ _ c.in-Some.ensures.first

pub loop-vertex-init : goal.loop-vertex-init
loop-vertex-init c = joined_none _ _ c.told-sets

pub loop-vertex-preserved : goal.loop-vertex-preserved
loop-vertex-preserved c =
    let within : c.code-index.result < length c.loop-vertex.sets = rw c.loop-vertex.invariant.count c.code-index.ensures.small in
    rw (
      c.union.ensures.set,
      read-is c.loop-vertex.sets c.code-index.result c.index-sets-index.result within c.index-sets-index.is,
      c.without_lowest-waiting.ensures _ c.in-Some.ensures.first,
      ← c.code-index.ensures.value,
    )
    (joined_more _ _ _ _ _ _ c.code-index.ensures.small
    (rw c.code-index.ensures.value c.in-Some.ensures.first.member) refl c.loop-vertex.invariant)

pub loop-vertex-smaller : goal.loop-vertex-smaller
loop-vertex-smaller c = rw (c.without_lowest-waiting.ensures _ c.in-Some.ensures.first) (remove-lt _ _ c.in-Some.ensures.first.member)

pub returns : goal.returns
returns c = record { len = c.loop-vertex.invariant.count; sets = joined_all _ _ _ _ c.in_default.ensures.first c.loop-vertex.invariant }
