use Rattle.hx_board.proofs.VertexSetLaws.{code-vertex}
use Rattle.hx_fill.proofs.ReachLaws.{holds-none, holds-next, holds-all}
use Rattle.hx_fill.proofs.reaches.reached_around.Goals as goal

pub loop-next-init : goal.loop-next-init
loop-next-init c = rw (c.empty-found.ensures, c.into_iter-next-iterator.ensures.into_iter_gives, c.each_vertex-next-items.ensures) (holds-none _ _ _)

pub joined_with-requires : goal.joined_with-requires
joined_with-requires c =
    let comes = c.in-Some.ensures.steps in
    code-vertex _ c.in-Some.next (c.requires _ (c.loop-next.invariant.inside _ comes.first.member)) comes.some

pub loop-next-preserved : goal.loop-next-preserved
loop-next-preserved c =
    let comes = c.in-Some.ensures.steps in
    let in_around = c.loop-next.invariant.inside _ comes.first.member in
    let extent = rw c.position.ensures at c.size-size.ensures.valid.0 in
    rw (comes.rest, c.union-found.ensures.set)
    (holds-next _ _ extent _ c.loop-next.next-iterator c.loop-next.found _ c.in-Some.next
    (code-vertex _ c.in-Some.next (c.requires _ in_around) comes.some, in_around) c.joined_with.ensures c.loop-next.invariant)

pub returns : goal.returns
returns c = holds-all _ _ _ _ c.loop-next.found c.in-None.ensures.steps.0 c.loop-next.invariant
