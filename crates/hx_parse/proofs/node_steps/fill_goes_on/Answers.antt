use Rattle.std.proofs.Common.{Some}
use Rattle.hx_text.specs.declared.entries.Entry.TheVariants.{Fill as Fill_entry}
use Rattle.hx_lex.specs.Words.{Reads}
use Rattle.hx_text.specs.FillTexts.{fill_line, FillFits}
use Rattle.hx_parse.proofs.BegunSteps.{went_on}
use Rattle.hx_parse.proofs.node_steps.fill_goes_on.Goals as goal

pub returns-in-Some-clause-yes : goal.returns-in-Some-clause-yes
returns-in-Some-clause-yes c = λ taken.
    let reads : Reads fill_line (FillFits c.args.begun.now.so_far.preamble.size) c.args.line.now (Some c.in-Some.fill) =
    rw c.size.ensures at c.in-Some.ensures in
    went_on c.args.begun.now _ (Fill_entry c.in-Some.fill) c.args.line.now c.requires.more reads.0 c.requires.due reads.1
    (c.takes.ensures.yes taken)
