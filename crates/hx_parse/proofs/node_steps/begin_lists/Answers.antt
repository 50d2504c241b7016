-- No entry came yet, as many are missing as the first line tells, and the lists have room for them.
use Rattle.std.proofs.Common.{arith}
use Rattle.hx_parse.proofs.BegunSteps.{begun_with_head, first_line_takes_memory}
use Rattle.hx_parse.proofs.node_steps.begin_lists.Goals as goal

pub returns : goal.returns
returns c = λ nodes lines stands room fits.
    c.settled.ensures nodes _
    (begun_with_head _ nodes lines c.in-Some.ensures.empty c.in-Some-list_for.ensures.empty c.in-Some-list_for-2.ensures.empty
    c.in-Some-list_for-3.ensures.empty
    (omega (
      arith,
      c.from.ensures,
      c.from-2.ensures,
      c.from-3.ensures,
      c.from-4.ensures,
      c.steps-steps_told.ensures,
      c.threats-threats_told.ensures,
      c.answers-answers_told.ensures,
      c.fills-fills_told.ensures,
    ))
    (record {
      steps = omega (arith, c.steps-steps_told.ensures, c.in-Some.ensures.room);
      threats = omega (arith, c.threats-threats_told.ensures, c.in-Some-list_for.ensures.room);
      answers = omega (arith, c.answers-answers_told.ensures, c.in-Some-list_for-2.ensures.room);
      fills = omega (arith, c.fills-fills_told.ensures, c.in-Some-list_for-3.ensures.room);
    })
    stands room fits)

pub returns-in_default : goal.returns-in_default
returns-in_default c = λ nodes lines stands room fits.
    first_line_takes_memory c.args.so_far c.args.head fits (omega (arith, c.steps-steps_told.ensures, c.in_default.ensures.memory))

pub returns-in_default-list_for : goal.returns-in_default-list_for
returns-in_default-list_for c = λ nodes lines stands room fits.
    first_line_takes_memory c.args.so_far c.args.head fits
    (omega (arith, c.threats-threats_told.ensures, c.in_default-list_for.ensures.memory))

pub returns-in_default-list_for-2 : goal.returns-in_default-list_for-2
returns-in_default-list_for-2 c = λ nodes lines stands room fits.
    first_line_takes_memory c.args.so_far c.args.head fits
    (omega (arith, c.answers-answers_told.ensures, c.in_default-list_for-2.ensures.memory))

pub returns-in_default-list_for-3 : goal.returns-in_default-list_for-3
returns-in_default-list_for-3 c = λ nodes lines stands room fits.
    first_line_takes_memory c.args.so_far c.args.head fits
    (omega (arith, c.fills-fills_told.ensures, c.in_default-list_for-3.ensures.memory))
