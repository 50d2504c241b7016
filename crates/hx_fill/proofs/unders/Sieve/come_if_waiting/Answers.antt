use Rattle.std.proofs.Common.{sym, ◌∙◌}
use Rattle.hx_fill.proofs.ComingLaws.{sifted_goes_on, next_listed, none_waits-more, fewer_wait, waits_no_more}
use Rattle.hx_fill.proofs.unders.Sieve.come_if_waiting.Goals as goal

pub returns-then-not-has-clause-goes_on : goal.returns-then-not-has-clause-goes_on
returns-then-not-has-clause-goes_on c = λ order place there none so_far. (
  so_far,
  none_waits-more order place c.args.self.now.waiting c.args.self.now.waiting c.args.cell there (λ n h. h)
      (sym c.has.ensures ∙ c.if-not-has.true) none,
)

pub returns-clause-goes_on : goal.returns-clause-goes_on
returns-clause-goes_on c = λ order place there none so_far.
    let comes = c.come.ensures.comes in (
      sifted_goes_on c.args.both.now.position c.args.both.now.mover c.args.self.now.cells order c.args.self.now.choices
          c.args.self.now.without_line c.args.self.now.waiting c.args.self.now.betters
          so_far c.args.cell (sym c.has.ensures ∙ c.if-not-has.false)
          (next_listed order place c.args.self.now.waiting c.args.cell there none) _ _ _ _ comes,
      none_waits-more order place c.args.self.now.waiting _ c.args.cell there (fewer_wait _ _ _ _ _ _ _ _ _ _ _ comes)
          (waits_no_more _ _ _ _ _ _ _ _ _ _ _ comes) none,
    )
