use Rattle.std.proofs.Common.{rules, ◌≡◌, ◌++◌, [], ◌∷◌, ◌∙◌}
use Rattle.hx_tree.specs.declared.nodes.Line.{Line}
use Rattle.hx_book.proofs.SightLaws.{grows-on}
use Rattle.hx_cells.proofs.StillLeft.{cells-left}
use Rattle.hx_nodes.proofs.GrowingLists.{extends-headings}
use Rattle.hx_nodes.proofs.GatheredLines.{one_more_gathered, all_gathered}
use Rattle.hx_nodes.proofs.lines.lines_for.Goals as goal

pub loop-cell-preserved : goal.loop-cell-preserved
loop-cell-preserved g c =
    let before = c.loop-cell.invariant in
    let left = cells-left c.size-size.result c.args.cells c.loop-cell.yielded
    (c.into_iter-cell-iterator.ensures.into_iter_gives ∙ c.each_cell-cell-items.ensures.left) c.loop-cell.yielded_by in
    let least = rw (left.size, c.size-size.ensures.value) at c.in-Some.ensures.steps.least in
    let grown = extends-headings _ _ c.line_for.ensures.grew.seen in
    let line : Line = c.in-Some-line_for.line in
    let pushed : c.push.new.self.items ≡ c.loop-cell.lines.items ++ line ∷ [] = search rules in
    record {
      grew = grows-on _ _ _ before.grew c.line_for.ensures.grew;
      gathered =
          rw (grown.1, pushed, c.in-Some.ensures.steps.cells)
          (one_more_gathered _ _ _ _ c.args.position.now.size grown.0 _ _ _ line before.gathered
          (λ n member. (c.requires.inside n member).on_board) least
          (rw grown.1 at c.in-Some-line_for.ensures.line));
    }

pub returns-clause-lines : goal.returns-clause-lines
returns-clause-lines g c =
    let left = cells-left c.size-size.result c.args.cells c.loop-cell.yielded
    (c.into_iter-cell-iterator.ensures.into_iter_gives ∙ c.each_cell-cell-items.ensures.left) c.loop-cell.yielded_by in
    let none = rw (left.size, c.size-size.ensures.value) at c.in-None.ensures.steps.none in
    rw c.new.ensures
    (all_gathered _ _ _ _ c.args.position.now.size c.loop-cell.cell-iterator.cells _ c.loop-cell.invariant.gathered
    (λ n member. (c.requires.inside n member).on_board) none)
