use Rattle.std.proofs.Common.{sym, ◌∙◌}
use Rattle.hx_linkset.proofs.LossLaws.{taken-no_end, untaken-end}
use Rattle.hx_linkset.proofs.liveness.loses_end.Goals as goal

pub returns-then-has-clause-lost : goal.returns-then-has-clause-lost
returns-then-has-clause-lost c = λ before after new player l is_allowed taken live.
    taken-no_end c.args.losses.now before after l new player is_allowed c.args.link.now.a c.code-a.ensures.some
    (sym c.has.ensures ∙ taken) live.a_end

pub returns-else-has-clause-lost : goal.returns-else-has-clause-lost
returns-else-has-clause-lost c = λ before after new player l is_allowed taken live.
    taken-no_end c.args.losses.now before after l new player is_allowed c.args.link.now.b c.code-b.ensures.some
    (sym c.has-else-has.ensures ∙ taken) live.b_end

pub returns-else-has-clause-kept : goal.returns-else-has-clause-kept
returns-else-has-clause-kept c = λ before after old new player l was_allowed is_allowed untaken live. (
  untaken-end c.args.losses.now before after l new player is_allowed old was_allowed c.args.link.now.a c.code-a.ensures.some
      (sym c.has.ensures ∙ c.if-has.false) live.a_end,
  untaken-end c.args.losses.now before after l new player is_allowed old was_allowed c.args.link.now.b c.code-b.ensures.some
      (sym c.has-else-has.ensures ∙ untaken) live.b_end,
)
