use Rattle.std.proofs.Common.{refl}
use Rattle.hx_pool.proofs.hints.most_words.Goals as goal

pub returns-then-budget-le-MANY_UNITS-clause-power :
    goal.returns-then-budget-le-MANY_UNITS-clause-power
returns-then-budget-le-MANY_UNITS-clause-power c = (20, refl)

pub returns-else-budget-le-MANY_UNITS-clause-power :
    goal.returns-else-budget-le-MANY_UNITS-clause-power
returns-else-budget-le-MANY_UNITS-clause-power c = (22, refl)
