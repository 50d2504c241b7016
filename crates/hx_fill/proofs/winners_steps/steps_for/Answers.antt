use Rattle.std.proofs.Common.{◌++◌, sym, ap, ◌∙◌}
use Rattle.std.proofs.lemmas.List.{take_all}
use Rattle.hx_fill.specs.Fills.{winner_steps}
use Rattle.hx_fill.proofs.WinnerLaws.{winner_steps-lead, winner_steps_all-more, winner_steps_all-none}
use Rattle.hx_fill.proofs.winners_steps.steps_for.Goals as goal

pub loop-fill-preserved : goal.loop-fill-preserved
loop-fill-preserved c =
    let within = rw c.as_slice-fill-items.ensures.value at c.loop-fill-test.true in
    let item = rw c.as_slice-fill-items.ensures.value at c.fill-item.is in
    c.in_ok-push_steps.ensures
    ∙ ap (λ xs. xs ++ winner_steps c.args.winner c.fill-item.result.colour c.fill-item.result.step) c.loop-fill.invariant
    ∙ sym (winner_steps_all-more c.args.winner c.args.filled.now.steps.items c.loop-fill.fill-index c.fill-item.result within item)

pub returns-clause-right : goal.returns-clause-right
returns-clause-right c = λ board final to.
    let past = rw c.as_slice-fill-items.ensures.value at c.loop-fill-test.false in
    let all = rw (take_all c.loop-fill.fill-index c.args.filled.now.steps.items past) at c.loop-fill.invariant in
    let lead = winner_steps-lead c.args.winner c.args.filled.now.steps.items c.requires board final to in
    rw (c.new.ensures, all) (lead.right, lead.same)

pub returns-clause-none : goal.returns-clause-none
returns-clause-none c =
    let past = rw c.as_slice-fill-items.ensures.value at c.loop-fill-test.false in
    let all = rw (take_all c.loop-fill.fill-index c.args.filled.now.steps.items past) at c.loop-fill.invariant in
    rw (c.new.ensures, all) (winner_steps_all-none c.args.winner c.args.filled.now.steps.items c.requires)
