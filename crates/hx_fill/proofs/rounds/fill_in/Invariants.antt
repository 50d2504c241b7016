use Rattle.std.specs.Prelude.{◌≡◌, true}
use Rattle.hx_board.specs.Colours.{other_of}
use Rattle.hx_board.specs.Counts.{empty_count}
use Rattle.hx_fill.specs.Fills.{AreDeadOrPairs, FillsTo, HasNone}
use Rattle.hx_fill.proofs.RoundLaws.{rounds_left}
use Rattle.hx_fill.proofs.rounds.fill_in.Given as goal

abbrev pub invariant-loop-filled : goal.invariant-loop-filled
invariant-loop-filled l = record {
  dead_or_pairs : AreDeadOrPairs l.filled.steps.items;
  right : FillsTo l.position l.filled.steps.items l.filled.position;
  none : l.has_other_none ≡ true → HasNone l.filled.position (other_of l.colour);
}

abbrev pub decreases-loop-filled : goal.decreases-loop-filled
decreases-loop-filled l = rounds_left (empty_count l.filled.position) l.has_other_none
