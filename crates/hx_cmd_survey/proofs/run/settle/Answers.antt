use Rattle.hx_openings.specs.Openings.{OpeningsAreSmall}
use Rattle.hx_finish.proofs.WantingEnds.{wanting_where}
use Rattle.hx_cmd_survey.proofs.run.settle.Goals as goal

pub returns-in-Err-clause-due : goal.returns-in-Err-clause-due
returns-in-Err-clause-due g c =
    wanting_where c.args.settings (¬ OpeningsAreSmall c.args.size c.args.settings.budget) c.in-Err.why _ c.left_open-answer.ensures.tells
    (λ lacks_other small. lacks_other (c.in-Err.ensures.small small))
