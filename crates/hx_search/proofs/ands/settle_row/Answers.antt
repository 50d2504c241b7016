use Rattle.std.proofs.Common.{◌<◌, true, length, arith}
use Rattle.hx_search.proofs.AndLaws.{end-on, row-dead, row-full}
use Rattle.hx_search.proofs.ands.settle_row.Goals as goal

pub returns-in_default-clause-tried : goal.returns-in_default-clause-tried
returns-in_default-clause-tried c = row-dead c.args.set.now c.args.right c.in_default.ensures

pub returns-in-Ok-Settled-settle_end-clause-tried : goal.returns-in-Ok-Settled-settle_end-clause-tried
returns-in-Ok-Settled-settle_end-clause-tried c = λ left less.
    let inside : c.args.right < length c.settle_end.new.set.present.links = omega (arith, c.requires, c.settle_end.ensures.grown.longer) in
    row-full c.settle_end-2.new.set c.args.right c.in-Some.link
    (c.settle_end-2.ensures.grown.links_stay _ _ (c.settle_end.ensures.grown.links_stay _ _ c.in-Some.ensures.0))
    (end-on c.settle_end.new.set c.settle_end-2.new.set c.settle_end-2.ensures.grown true c.in-Some.link.a c.args.right inside
    (rw c.in-Ok-Settled.field-0-is at c.in-Ok-Settled.ensures.tried))
    (rw c.in-Ok-Settled-settle_end.field-0-is at c.in-Ok-Settled-settle_end.ensures.tried)
    left less

pub returns-in-Ok-Stopped-clause-tried : goal.returns-in-Ok-Stopped-clause-tried
returns-in-Ok-Stopped-clause-tried c = rw c.in-Ok-Stopped.field-0-is at c.in-Ok-Stopped.ensures.tried

pub settle_end-requires-2 : goal.settle_end-requires-2
settle_end-requires-2 c = omega (arith, c.requires, c.settle_end.ensures.grown.longer)

pub returns-in-Ok-Stopped-settle_end-clause-tried : goal.returns-in-Ok-Stopped-settle_end-clause-tried
returns-in-Ok-Stopped-settle_end-clause-tried c = rw c.in-Ok-Stopped-settle_end.field-0-is at c.in-Ok-Stopped-settle_end.ensures.tried
