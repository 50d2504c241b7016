use Rattle.std.proofs.Common.{◌<◌, get_or, length, arith}
use Rattle.hx_linkset.proofs.MarkLaws.{mark-next, stands-here}
use Rattle.hx_linkset.proofs.marks.mark_all.Goals as goal

pub index_mut-requires : goal.index_mut-requires
index_mut-requires c =
    let inside : get_or c.args.places.now c.loop-place.place-index 0 < length c.args.marks.now.items =
    c.requires _ (stands-here c.args.places.now c.loop-place.place-index c.loop-place-test.true) in
    omega (arith, c.loop-place.invariant.long, c.loop-place.marks.ok)

pub loop-place-preserved : goal.loop-place-preserved
loop-place-preserved c =
    let inside : get_or c.args.places.now c.loop-place.place-index 0 < length c.args.marks.now.items =
    c.requires _ (stands-here c.args.places.now c.loop-place.place-index c.loop-place-test.true) in
    mark-next c.args.places.now c.loop-place.place-index c.loop-place-test.true c.args.marks.now.items c.loop-place.marks.items
    (omega (arith, c.loop-place.invariant.long)) c.loop-place.invariant
