use Rattle.hx_cli.specs.Words.{words_of}
use Rattle.hx_cli.proofs.Leads.{Lead-no_addition, Goes-then, goes-nowhere_yet, leads_away}
use Rattle.hx_cli.proofs.choices.take_options.Goals as goal

pub loop-choice-init : goal.loop-choice-init
loop-choice-init c = goes-nowhere_yet (words_of c.args.words.now) c.args.before

pub returns-in_err-chosen : goal.returns-in_err-chosen
returns-in_err-chosen c =
    rw c.from_residual.ensures
    (λ rest now away. Lead-no_addition (words_of c.loop-choice.rest.now) c.loop-choice.chosen rest now c.in-Some.choice
    (words_of c.in-Some.later.now) away.last c.in-Some.ensures c.in_err-chosen.ensures
    (c.loop-choice.invariant.forth rest now away.last away.lead))

pub loop-choice-preserved : goal.loop-choice-preserved
loop-choice-preserved c =
    Goes-then (words_of c.args.words.now) c.args.before (words_of c.loop-choice.rest.now) (words_of c.in-Some.later.now)
    c.loop-choice.chosen c.in_ok-chosen.chosen c.in-Some.choice c.in-Some.ensures c.in_ok-chosen.ensures c.loop-choice.invariant

pub returns : goal.returns
returns c =
    leads_away (words_of c.args.words.now) c.args.before (words_of c.loop-choice.rest.now) c.loop-choice.chosen
    c.loop-choice.invariant c.in_default.ensures
