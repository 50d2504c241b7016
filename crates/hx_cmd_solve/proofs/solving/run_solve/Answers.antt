use Rattle.hx_cmd_solve.proofs.KeptPromises.{kept}
use Rattle.hx_cmd_solve.proofs.solving.run_solve.Goals as goal

pub returns-clause-promises : goal.returns-clause-promises
returns-clause-promises g c =
    kept c.args.settings c.args.plain_tree (g.S.Source.reading c.args.source.now) (g.S.Source.reading c.settle-answer.new.source)
    (g.K.Sink.writing c.args.sink.now) (g.K.Sink.writing c.say-status.new.sink) _ _ c.settle-answer.ensures.due
    c.settle-answer.ensures.read_to_end c.settle-answer.ensures.counted c.say-status.ensures
