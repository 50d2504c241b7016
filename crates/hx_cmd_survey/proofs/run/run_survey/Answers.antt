use Rattle.hx_cmd_survey.proofs.KeptPromises.{kept}
use Rattle.hx_cmd_survey.proofs.run.run_survey.Goals as goal

pub returns-clause-promises : goal.returns-clause-promises
returns-clause-promises g c =
    kept c.args.size c.args.settings (g.K.Sink.writing c.args.sink.now) (g.K.Sink.writing c.say-status.new.sink) _ _
    c.settle-answer.ensures.due c.settle-answer.ensures.counted c.say-status.ensures
