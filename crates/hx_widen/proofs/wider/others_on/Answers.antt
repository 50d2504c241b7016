use Rattle.std.proofs.Common.{rules, ◌≡◌, ◌++◌, [], ◌∷◌, ◌∙◌}
use Rattle.hx_cells.proofs.StillLeft.{cells-left}
use Rattle.hx_inferior.specs.declared.fills.FillStep.TheVariants.{Other}
use Rattle.hx_widen.proofs.MissingStones.{one_more, none_left}
use Rattle.hx_widen.proofs.wider.others_on.Goals as goal

pub loop-cell-preserved : goal.loop-cell-preserved
loop-cell-preserved c =
    let comes = c.in-Some.ensures.steps in
    let pushed : c.push.new.self.items ≡ c.loop-cell.steps.items ++ Other c.in-Some.cell ∷ [] = search rules in
    rw (pushed, comes.cells)
    (one_more c.args.position.now c.args.winner c.args.cells c.loop-cell.cell-iterator.cells c.in-Some.cell c.loop-cell.steps.items
    c.loop-cell.invariant comes.least.member)

pub returns : goal.returns
returns c =
    let left = cells-left c.size-size.result c.args.cells c.loop-cell.yielded
    (c.into_iter-cell-iterator.ensures.into_iter_gives ∙ c.each_cell-cell-items.ensures.left) c.loop-cell.yielded_by in
    let none = rw (left.size, c.size-size.ensures.value) at c.in-None.ensures.steps.none in
    none_left c.args.position.now c.args.winner c.args.cells c.loop-cell.cell-iterator.cells c.loop-cell.steps.items
    c.loop-cell.invariant none
