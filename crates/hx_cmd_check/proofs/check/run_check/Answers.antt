use Rattle.hx_cmd_check.proofs.KeptPromises.{kept_whole, kept_cut}
use Rattle.hx_cmd_check.proofs.check.run_check.Goals as goal

pub returns-in-Ok-clause-promises : goal.returns-in-Ok-clause-promises
returns-in-Ok-clause-promises g c =
    kept_whole (g.S.Source.reading c.args.source.now) (g.S.Source.reading c.judge-judgement.new.source)
    (g.K.Sink.writing c.args.sink.now) (g.K.Sink.writing c.write_judgement.new.sink) c.judge-judgement.result _ c.status.ensures
    c.judge-judgement.ensures c.in-Ok.ensures.bytes

pub returns-in-Err-clause-promises : goal.returns-in-Err-clause-promises
returns-in-Err-clause-promises g c =
    kept_cut (g.S.Source.reading c.args.source.now) (g.S.Source.reading c.judge-judgement.new.source)
    (g.K.Sink.writing c.args.sink.now) (g.K.Sink.writing c.write_judgement.new.sink) c.in-Err.ensures.cause.failed
