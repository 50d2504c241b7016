use Rattle.std.proofs.Common.{Some}
use Rattle.hx_text.specs.declared.entries.Entry.TheVariants.{Step as Step_entry}
use Rattle.hx_lex.specs.Words.{Reads}
use Rattle.hx_text.specs.StepTexts.{step_line, StepFits}
use Rattle.hx_parse.proofs.BegunSteps.{went_on}
use Rattle.hx_parse.proofs.node_steps.step_goes_on.Goals as goal

pub returns-in-Ok-Some-clause-yes : goal.returns-in-Ok-Some-clause-yes
returns-in-Ok-Some-clause-yes c = λ taken.
    let reads : Reads step_line (StepFits c.args.begun.now.so_far.preamble.size) c.args.line.now (Some c.in-Ok-Some.step) =
    rw (c.in-Ok-Some.field-0-is, c.size.ensures) at c.in-Ok-Some.ensures.reads in
    went_on c.args.begun.now _ (Step_entry c.in-Ok-Some.step) c.args.line.now c.requires.more reads.0 c.requires.due reads.1
    (c.takes.ensures.yes taken)
