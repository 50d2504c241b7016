use Rattle.std.proofs.Common.{◌∙◌, arith, rules, length-set}
use Rattle.hx_template.proofs.Numbers.{power_none, powers_next}
use Rattle.hx_template.proofs.games.LocalGame.new.Goals as goal

pub loop-index-init : goal.loop-index-init
loop-index-init c = record { count = search rules; next = power_none c.args.carrier; powers = λ n less. absurd (omega arith) }

pub loop-index-preserved : goal.loop-index-preserved
loop-index-preserved c = record {
  count = length-set c.loop-index.weights c.loop-index.index c.loop-index.fillings ∙ c.loop-index.invariant.count;
  next = c.next_weight-fillings.ensures;
  powers = powers_next c.loop-index.weights c.loop-index.index c.loop-index.fillings c.args.carrier
      (omega (arith, c.loop-index.invariant.count, c.loop-index-test.true))
      c.loop-index.invariant.next c.loop-index.invariant.powers;
}
