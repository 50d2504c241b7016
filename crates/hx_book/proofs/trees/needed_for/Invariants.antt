use Rattle.std.proofs.Common.{◌≤◌, ◌+◌}
use Rattle.hx_book.specs.Renaming.{AreMarkedFrom}
use Rattle.hx_book.proofs.trees.needed_for.Given as goal

abbrev pub invariant-loop-bound : goal.invariant-loop-bound
invariant-loop-bound l = record {
  marked : AreMarkedFrom l.nodes l.root l.bound l.marks.items;
  within : l.bound ≤ l.root + 1;
}

abbrev pub decreases-loop-bound : goal.decreases-loop-bound
decreases-loop-bound l = l.bound
