use Rattle.hx_board.specs.Counts.{empty_count}
use Rattle.hx_fill.specs.Fills.{AreDeadOrPairs, FillsTo}
use Rattle.hx_fill.proofs.rounds.fill_in_for.Given as goal

abbrev pub invariant-loop-filled : goal.invariant-loop-filled
invariant-loop-filled l = record {
  dead_or_pairs : AreDeadOrPairs l.filled.steps.items;
  right : FillsTo l.position l.filled.steps.items l.filled.position;
}

abbrev pub decreases-loop-filled : goal.decreases-loop-filled
decreases-loop-filled l = empty_count l.filled.position
