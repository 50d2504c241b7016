use Rattle.hx_text.specs.declared.entries.Entry.TheVariants.{Threat as Threat_entry}
use Rattle.hx_parse.proofs.BegunSteps.{went_on}
use Rattle.hx_parse.proofs.node_steps.threat_goes_on.Goals as goal

pub returns-in-Some-clause-yes : goal.returns-in-Some-clause-yes
returns-in-Some-clause-yes c = λ taken.
    let reads = c.in-Some.ensures in
    went_on c.args.begun.now _ (Threat_entry c.in-Some.place) c.args.line.now c.requires.more reads.0 c.requires.due reads.1
    (c.takes.ensures.yes taken)
