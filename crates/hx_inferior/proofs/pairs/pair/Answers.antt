-- The cells of a pair are empty.
use Rattle.std.proofs.Common.{sym, ◌∙◌}
use Rattle.std.proofs.lemmas.Bool.{false≢true}
use Rattle.hx_inferior.proofs.PairLaws.{pair-a_empty, pair-b_empty}
use Rattle.hx_inferior.proofs.pairs.pair.Goals as goal

pub returns-then-not-a_empty : goal.returns-then-not-a_empty
returns-then-not-a_empty c = (
  (λ never. absurd (false≢true never)),
  (λ pair. absurd (false≢true (sym c.if-not-a_empty.true ∙ (c.has-a_empty.ensures
      ∙ (c.empties-empties.ensures c.args.a).1 (pair-a_empty c.args.position.now c.args.colour c.args.a c.args.b pair))))),
)

pub returns-then-not-b_empty : goal.returns-then-not-b_empty
returns-then-not-b_empty c = (
  (λ never. absurd (false≢true never)),
  (λ pair. absurd (false≢true (sym c.if-not-b_empty.true ∙ (c.has-b_empty.ensures
      ∙ (c.empties-empties.ensures c.args.b).1 (pair-b_empty c.args.position.now c.args.colour c.args.a c.args.b pair))))),
)
