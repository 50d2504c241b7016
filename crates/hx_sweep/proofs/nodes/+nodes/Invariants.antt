-- A stone leaves one empty cell less; at each position the four functions call one another in the order prove, rule,
-- answers, after.
use Rattle.std.proofs.Common.{◌≡◌, ◌+◌, ◌-◌, ◌*◌, length}
use Rattle.hx_board.specs.Counts.{empty_count, sweep_size}
use Rattle.hx_tree.specs.Trees.{headings_of}
use Rattle.hx_board.specs.Colours.{other_of}
use Rattle.hx_tree.specs.Headings.{heading_of}
use Rattle.hx_sweep.specs.Growth.{HasMoreNodes}
use Rattle.hx_tree.proofs.LinesInOrder.{AreAnsweredSoFar}
use Rattle.hx_sweep.proofs.nodes.+nodes.Given as goal

abbrev pub decreases-prove : goal.decreases-prove
decreases-prove l = 4 * empty_count l.position.now + 3

abbrev pub decreases-rule : goal.decreases-rule
decreases-rule l = 4 * empty_count l.position.now + 2

abbrev pub decreases-answers : goal.decreases-answers
decreases-answers l = 4 * empty_count l.position.now + 1

abbrev pub decreases-after : goal.decreases-after
decreases-after l = 4 * empty_count l.position.now

abbrev pub invariant-answers-loop-cell : goal.invariant-answers-loop-cell
invariant-answers-loop-cell l = record {
  kept : l.position ≡ l.fn.position;
  answered : AreAnsweredSoFar (headings_of l.nodes.items) (heading_of l.fn.position (other_of l.winner) l.winner) l.cell-iterator.cells l.lines.items;
  grown : HasMoreNodes l.fn.position.size
      (length l.lines.items * sweep_size (empty_count l.fn.position - 1)) l.fn.nodes.items l.nodes.items;
}
