use Rattle.std.proofs.Common.{◌+◌, ◌/◌, ◌<◌, length, take, refl, arith}
use Rattle.std.proofs.lemmas.Option.{slice_get_read}
use Rattle.hx_linkset.proofs.TouchLaws.{block-left, blocks-fewer}
use Rattle.hx_linkset.proofs.touches.HeldLinks.truncate.Goals as goal

pub invariant_of-self : goal.invariant_of-self
invariant_of-self c =
    let less : c.args.count < length c.self.inside.links.items = omega arith in
    let inside = block-left _ _ c.args.count c.self.invariant less in
    rw (c.truncate.ensures.items, c.truncate-then-count-len.ensures.items)
    (blocks-fewer c.self.inside.links.items c.self.inside.blocks.items c.args.count c.index_mut.result.now c.cut.new.self c.self.invariant
    less
    (slice_get_read (take (c.args.count / 64 + 1) c.self.inside.blocks.items) _ _ _ refl inside
    (rw c.truncate-then-count-len.ensures.items at c.index_mut.ensures.value))
    c.cut.ensures)
