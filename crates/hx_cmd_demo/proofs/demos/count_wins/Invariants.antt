-- The positions before the place were drawn and counted.
use Rattle.std.proofs.Common.{◌≡◌}
use Rattle.hx_demo.specs.Generators.{generator_of}
use Rattle.hx_demo.specs.Draws.{first_positions}
use Rattle.hx_demo.proofs.DrawnOneByOne.{positions_later}
use Rattle.hx_cmd_demo.specs.Answers.{AreCounts}
use Rattle.hx_cmd_demo.proofs.demos.count_wins.Given as goal

abbrev pub invariant-loop-drawn : goal.invariant-loop-drawn
invariant-loop-drawn g l = record {
  draw : l.draw ≡ positions_later l._drawn (generator_of l.fn.seed);
  counts : AreCounts (first_positions l._drawn l.fn.seed) l.wins l._drawn;
}
