use Rattle.hx_io.specs.Sources.{SomeReadFailed}
use Rattle.hx_io.specs.Sinks.{SomeWriteFailed}
use Rattle.hx_io.proofs.CauseLaws.{rose_from_earlier}
use Rattle.hx_cmd_play.specs.Runs.{Refused}
use Rattle.hx_cmd_play.proofs.RunLaws.{has_cause, kept, played}
use Rattle.hx_cmd_play.proofs.play.run_play.Goals as goal

pub returns-in-Ok-clause-run : goal.returns-in-Ok-clause-run
returns-in-Ok-clause-run g c =
    let source = g.S.Source.reading c.args.source.now in
    let now = g.S.Source.reading c.serve.new.source in
    let sink = g.K.Sink.writing c.args.sink.now in
    let sink_now = g.K.Sink.writing c.serve.new.sink in
    played source (g.S.Source.reading c.seat.new.source) now sink sink_now c.seat.new.lines.held c.in-Ok.player c.serve.new.player
    c.serve.result c.status_of.result c.in-Ok.ensures.seats c.serve.ensures.ends
    (has_cause (SomeReadFailed source now) (SomeWriteFailed sink sink_now) c.serve.result
    (λ failed. rose_from_earlier _ _ _ c.in-Ok.ensures.later (c.serve.ensures.read_fault failed)) c.serve.ensures.write_fault)
    c.status_of.ensures

pub returns-in-Ok-clause-promises : goal.returns-in-Ok-clause-promises
returns-in-Ok-clause-promises g c =
    kept (g.S.Source.reading c.args.source.now) (g.S.Source.reading c.serve.new.source) (g.K.Sink.writing c.args.sink.now)
    (g.K.Sink.writing c.serve.new.sink) c.status_of.result (returns-in-Ok-clause-run g c)

pub returns-in-Err-clause-run : goal.returns-in-Err-clause-run
returns-in-Err-clause-run g c = Refused c.in-Err.refusal c.in-Err.ensures.seats c.say.ensures

pub returns-in-Err-clause-promises : goal.returns-in-Err-clause-promises
returns-in-Err-clause-promises g c =
    kept (g.S.Source.reading c.args.source.now) (g.S.Source.reading c.seat.new.source) (g.K.Sink.writing c.args.sink.now)
    (g.K.Sink.writing c.say.new.sink) c.say.result (returns-in-Err-clause-run g c)
