use Rattle.hx_cmd_demo.proofs.KeptPromises.{kept}
use Rattle.hx_cmd_demo.proofs.demos.run_demo.Goals as goal

pub returns-clause-promises : goal.returns-clause-promises
returns-clause-promises g c =
    kept c.args.seed c.args.settings (g.K.Sink.writing c.args.sink.now) (g.K.Sink.writing c.say-status.new.sink) _ _
    c.settle-answer.ensures.due c.settle-answer.ensures.counted c.say-status.ensures
