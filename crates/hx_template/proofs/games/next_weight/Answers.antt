use Rattle.std.proofs.Common.{sym, ◌∙◌, arith}
use Rattle.hx_template.proofs.Numbers.{power_in, power_out, power_small}
use Rattle.hx_template.proofs.games.next_weight.Goals as goal

pub overflow_mul-result : goal.overflow_mul-result
overflow_mul-result c = omega (
  arith,
  power_small c.args.carrier c.args.index c.requires.few (omega (arith, c.requires.small)),
  c.requires.weight,
)

pub returns-then-holds : goal.returns-then-holds
returns-then-holds c = rw c.requires.weight (sym (power_in c.args.carrier c.args.index (sym c.holds.ensures ∙ c.if-holds.true)))

pub returns-else-holds : goal.returns-else-holds
returns-else-holds c = rw c.requires.weight (sym (power_out c.args.carrier c.args.index (sym c.holds.ensures ∙ c.if-holds.false)))
