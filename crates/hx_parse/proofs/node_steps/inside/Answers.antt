use Rattle.std.proofs.Common.{◌∙◌, sym, None, Some}
use Rattle.hx_lex.specs.Words.{Reads}
use Rattle.hx_text.specs.Entries.{entry_line}
use Rattle.hx_parse.specs.EntryReads.{IsEntryLine}
use Rattle.hx_parse.specs.Places.{kind_due}
use Rattle.hx_parse.proofs.BegunFaults.{inside_wrong}
use Rattle.hx_parse.proofs.BegunSteps.{or_takes_memory}
use Rattle.hx_parse.proofs.node_steps.inside.Goals as goal

pub returns-in-Ok-None : goal.returns-in-Ok-None
returns-in-Ok-None c = λ nodes lines stands begins.
    let reads : Reads entry_line (IsEntryLine c.args.begun.so_far.preamble.size (kind_due c.args.begun)) c.args.line.now None =
    rw (c.in-Ok-None.field-0-is, c.size.ensures, c.kind_due.ensures) at c.in-Ok-None.ensures.reads in
    inside_wrong c.args.begun c.args.line.now nodes lines reads stands begins

pub returns-in-Err : goal.returns-in-Err
returns-in-Err c = λ nodes lines stands.
    or_takes_memory c.args.begun c.args.line.now (sym c.kind_due.ensures ∙ c.in-Err.ensures.memory.0) c.in-Err.ensures.memory.1

pub returns-in-Ok-Some : goal.returns-in-Ok-Some
returns-in-Ok-Some c = λ nodes lines stands.
    let reads : Reads entry_line (IsEntryLine c.args.begun.so_far.preamble.size (kind_due c.args.begun)) c.args.line.now
    (Some c.in-Ok-Some.entry) =
    rw (c.in-Ok-Some.field-0-is, c.size.ensures, c.kind_due.ensures) at c.in-Ok-Some.ensures.reads in
    rw reads.1 (c.add_entry.ensures nodes lines stands reads.0)
