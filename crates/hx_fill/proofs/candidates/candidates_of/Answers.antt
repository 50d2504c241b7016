use Rattle.std.proofs.Common.{refl, ◌∙◌}
use Rattle.hx_cells.proofs.StillLeft.{cells-left}
use Rattle.hx_fill.proofs.CandidateLaws.{hold_none, hold_more, hold_all}
use Rattle.hx_fill.proofs.candidates.candidates_of.Goals as goal

pub loop-worse-init : goal.loop-worse-init
loop-worse-init c = rw (c.into_iter-worse-iterator.ensures.into_iter_gives, c.each_cell-worse-items.ensures.left)
    (hold_none c.args.both.now.position c.args.both.now.mover c.args.cells _ refl)

pub killers-requires : goal.killers-requires
killers-requires c =
    let left = cells-left c.args.size c.args.cells c.loop-worse.yielded
    (c.into_iter-worse-iterator.ensures.into_iter_gives ∙ c.each_cell-worse-items.ensures.left) c.loop-worse.yielded_by in
    c.requires.cells c.in-Some.worse (left.inside c.in-Some.worse c.in-Some.ensures.steps.least.member)

pub loop-worse-preserved : goal.loop-worse-preserved
loop-worse-preserved c = rw c.in-Some.ensures.steps.cells
    (hold_more c.args.both.now.position c.args.both.now.mover c.args.cells c.loop-worse.worse-iterator.cells c.in-Some.worse _ _ _ _
    c.meet-killers.ensures.set c.killers.ensures
    c.add_to_each.ensures.count c.add_to_each.ensures.kept (rw c.requires.size c.add_to_each.ensures.added) c.loop-worse.invariant)

pub returns : goal.returns
returns c =
    let left = cells-left c.args.size c.args.cells c.loop-worse.yielded
    (c.into_iter-worse-iterator.ensures.into_iter_gives ∙ c.each_cell-worse-items.ensures.left) c.loop-worse.yielded_by in
    let none = rw (left.size, ← c.requires.size) at c.in-None.ensures.steps.none in
    hold_all c.args.both.now.position c.args.both.now.mover c.args.cells c.loop-worse.worse-iterator.cells _
    (λ n h. none n (c.requires.cells n h).on_board) c.loop-worse.invariant
