use Rattle.hx_cmd_template.proofs.KeptPromises.{kept}
use Rattle.hx_cmd_template.proofs.run.run_template.Goals as goal

pub returns-clause-promises : goal.returns-clause-promises
returns-clause-promises g c =
    kept (g.S.Source.reading c.args.source.now) (g.S.Source.reading c.settle-answer.new.source)
    (g.K.Sink.writing c.args.sink.now) (g.K.Sink.writing c.say.new.sink) _ c.text_tells_template.ensures
    c.template_text_has_no_fault.ensures c.one_faulty_line.ensures c.settle-answer.result c.settle-answer.ensures.due c.say.ensures
