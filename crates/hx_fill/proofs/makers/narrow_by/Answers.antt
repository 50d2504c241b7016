use Rattle.std.proofs.Common.{◌∙◌}
use Rattle.hx_board.proofs.VertexSetLaws.{code-vertex}
use Rattle.hx_cells.proofs.StillLeft.{vertices-left}
use Rattle.hx_fill.proofs.MakerLaws.{narrowed_none, narrowed_more, narrowed_enough}
use Rattle.hx_fill.proofs.makers.narrow_by.Goals as goal

pub loop-vertex-init : goal.loop-vertex-init
loop-vertex-init c = rw (c.into_iter-vertex-iterator.ensures.into_iter_gives, c.each_vertex-vertex-items.ensures) (narrowed_none _ _ _ _)

pub narrow-requires-clause-vertex : goal.narrow-requires-clause-vertex
narrow-requires-clause-vertex c =
    let inside = vertices-left c.args.around c.loop-vertex.yielded c.loop-vertex.vertex-iterator
    (c.into_iter-vertex-iterator.ensures.into_iter_gives ∙ c.each_vertex-vertex-items.ensures) c.loop-vertex.yielded_by in
    let comes = c.in-Some.ensures.steps in
    code-vertex _ c.in-Some.vertex (c.requires.around _ (inside _ comes.first.member)) comes.some

pub loop-vertex-preserved : goal.loop-vertex-preserved
loop-vertex-preserved c =
    let inside = vertices-left c.args.around c.loop-vertex.yielded c.loop-vertex.vertex-iterator
    (c.into_iter-vertex-iterator.ensures.into_iter_gives ∙ c.each_vertex-vertex-items.ensures) c.loop-vertex.yielded_by in
    let comes = c.in-Some.ensures.steps in
    let in_around = inside _ comes.first.member in
    let extent = rw c.position.ensures at c.size-size.ensures.valid.0 in
    rw comes.rest (narrowed_more _ _ _ _ extent c.loop-vertex.vertex-iterator c.in-Some.vertex c.loop-vertex.makers _ (
      code-vertex _ c.in-Some.vertex (c.requires.around _ in_around) comes.some,
      in_around,
    ) c.loop-vertex.invariant c.narrow.ensures)

pub returns : goal.returns
returns c = rw c.in-None.ensures.steps.0 at c.loop-vertex.invariant

pub returns-then-has_none : goal.returns-then-has_none
returns-then-has_none c =
    let inside = vertices-left c.args.around c.loop-vertex.yielded c.loop-vertex.vertex-iterator
    (c.into_iter-vertex-iterator.ensures.into_iter_gives ∙ c.each_vertex-vertex-items.ensures) c.loop-vertex.yielded_by in
    let comes = c.in-Some.ensures.steps in
    let in_around = inside _ comes.first.member in
    let extent = rw c.position.ensures at c.size-size.ensures.valid.0 in
    narrowed_enough _ _ _ _ _ c.narrow.new.makers (c.has_none.ensures.dead c.if-has_none.true)
    (c.has_none.ensures.cells c.if-has_none.true)
    (narrowed_more _ _ _ _ extent c.loop-vertex.vertex-iterator c.in-Some.vertex c.loop-vertex.makers _ (
      code-vertex _ c.in-Some.vertex (c.requires.around _ in_around) comes.some,
      in_around,
    ) c.loop-vertex.invariant c.narrow.ensures)
