use Rattle.std.proofs.Common.{Some}
use Rattle.hx_text.specs.declared.entries.Entry.TheVariants.{Answer as Answer_entry}
use Rattle.hx_lex.specs.Words.{Reads}
use Rattle.hx_text.specs.Entries.{answer_line, AnswerFits}
use Rattle.hx_parse.proofs.BegunSteps.{went_on}
use Rattle.hx_parse.proofs.node_steps.answer_goes_on.Goals as goal

pub returns-in-Some-clause-yes : goal.returns-in-Some-clause-yes
returns-in-Some-clause-yes c = λ taken.
    let reads : Reads answer_line (AnswerFits c.args.begun.now.so_far.preamble.size) c.args.line.now (Some c.in-Some.answer) =
    rw c.size.ensures at c.in-Some.ensures in
    went_on c.args.begun.now _ (Answer_entry c.in-Some.answer) c.args.line.now c.requires.more reads.0 c.requires.due reads.1
    (c.takes.ensures.yes taken)
