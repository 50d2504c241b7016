use Rattle.std.proofs.Common.{◌<◌}
use Rattle.hx_finish.proofs.WantingEnds.{wanting_where}
use Rattle.hx_cmd_demo.specs.Answers.{enough}
use Rattle.hx_cmd_demo.proofs.KeptPromises.{low_budget}
use Rattle.hx_cmd_demo.proofs.demos.settle.Goals as goal

pub returns-in-Err-clause-due : goal.returns-in-Err-clause-due
returns-in-Err-clause-due g c =
    wanting_where c.args.settings (c.args.settings.budget < enough) c.in-Err.why _ c.left_open-answer.ensures.tells
    (λ lacks_other. low_budget c.args.settings.budget (λ some. lacks_other (c.in-Err.ensures.small some)))
