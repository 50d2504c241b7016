use Rattle.std.proofs.Common.{◌≡◌, ◌≢◌, ℕ, ◌<◌, true, ◌∙◌}
use Rattle.hx_board.specs.Sets.{has, difference}
use Rattle.hx_board.proofs.SetLaws.{has-difference_left}
use Rattle.hx_cells.proofs.StillLeft.{cells-left}
use Rattle.hx_fill.proofs.UnderLaws.{lines_none, lines_more, lines_all, least_below}
use Rattle.hx_fill.proofs.unders.Sieve.lines.Goals as goal

pub loop-cell-init : goal.loop-cell-init
loop-cell-init c = rw (c.new-lines.ensures.items, c.into_iter-cell-iterator.ensures.into_iter_gives, c.each_cell-cell-items.ensures.left, c.minus-with_line.ensures.set)
    (lines_none c.args.self.now.choices (difference c.args.self.now.cells c.args.self.now.without_line))

pub loop-cell-preserved : goal.loop-cell-preserved
loop-cell-preserved c =
    let so_far = c.loop-cell.invariant in
    let left = cells-left c.args.size _ c.loop-cell.yielded
    (c.into_iter-cell-iterator.ensures.into_iter_gives ∙ c.each_cell-cell-items.ensures.left) c.loop-cell.yielded_by in
    let comes = c.in-Some.ensures.steps in
    let least = rw left.size at comes.least in
    let above : (n : ℕ) → has c.loop-cell.cell-iterator.cells n ≡ true → n ≢ c.in-Some.cell → c.in-Some.cell < n = λ n h differ.
    least_below c.args.size c.loop-cell.cell-iterator.cells c.in-Some.cell least n
    (c.requires.on_board n (has-difference_left c.args.self.now.cells c.args.self.now.without_line n (so_far.left_inside n h))) h differ in
    let given = c.requires.given c.in-Some.cell (so_far.left_inside c.in-Some.cell least.member) in
    rw (comes.cells, c.in_ok-add_line.ensures given.0 given.1)
    (lines_more c.args.self.now.choices
    (difference c.args.self.now.cells c.args.self.now.without_line) c.loop-cell.cell-iterator.cells c.in-Some.cell _ so_far least.member
    above
    given.0.cell given.0.kill given.1)

pub returns : goal.returns
returns c =
    let left = cells-left c.args.size _ c.loop-cell.yielded
    (c.into_iter-cell-iterator.ensures.into_iter_gives ∙ c.each_cell-cell-items.ensures.left) c.loop-cell.yielded_by in
    let none = rw left.size at c.in-None.ensures.steps.none in
    rw c.new.ensures
    (lines_all c.args.self.now.choices (difference c.args.self.now.cells c.args.self.now.without_line) c.loop-cell.cell-iterator.cells _
    (λ n h. none n (c.requires.on_board n (has-difference_left c.args.self.now.cells c.args.self.now.without_line n h)))
    c.loop-cell.invariant)
