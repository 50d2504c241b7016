use Rattle.std.proofs.Common.{◌≡◌, ℕ, ◌∙◌, sym, subst, arith}
use Rattle.hx_demo.specs.Generators.{generator_of}
use Rattle.hx_demo.specs.Draws.{first_positions}
use Rattle.hx_demo.proofs.DrawnOneByOne.{positions_later-none, drawn_next, stands_next}
use Rattle.hx_cmd_demo.specs.Answers.{positions, AreCounts}
use Rattle.hx_cmd_demo.proofs.DrawnWins.{counts_none, counts_more, small_enough}
use Rattle.hx_cmd_demo.proofs.demos.count_wins.Goals as goal

pub loop-drawn-init : goal.loop-drawn-init
loop-drawn-init g c = record {
  draw = c.new-draw.ensures ∙ sym (positions_later-none (generator_of c.args.seed));
  counts = counts_none c.args.seed;
}

pub with-wins-requires : goal.with-wins-requires
with-wins-requires g c = omega (arith, c.loop-drawn.invariant.counts.all)

pub returns-in-Err-clause-small : goal.returns-in-Err-clause-small
returns-in-Err-clause-small g c = λ some. c.in-Err.ensures.small (small_enough _ _ c.next-position.ensures.empty some)

pub loop-drawn-preserved : goal.loop-drawn-preserved
loop-drawn-preserved g c = record {
  draw = stands_next c.loop-drawn._drawn (generator_of c.args.seed) _ _ c.loop-drawn.invariant.draw c.next-position.ensures.further;
  counts = counts_more c.loop-drawn._drawn c.args.seed _ _ _ _ c.loop-drawn.invariant.counts
      (drawn_next c.loop-drawn._drawn (generator_of c.args.seed) _ _ c.loop-drawn.invariant.draw c.next-position.ensures.drawn)
      c.in-Ok.ensures.wins c.with-wins.ensures;
}

pub returns-clause-counts : goal.returns-clause-counts
returns-clause-counts g c =
    let Counts : ℕ → Type 0 = λ n. AreCounts (first_positions n c.args.seed) c.loop-drawn.wins n in
    let all : c.loop-drawn._drawn ≡ positions = omega arith in
    subst Counts all c.loop-drawn.invariant.counts
