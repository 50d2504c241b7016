use Rattle.hx_cmd_htp.proofs.SessionPromises.{session_ran}
use Rattle.hx_cmd_htp.proofs.sessions.serve_lines.Goals as goal

pub returns : goal.returns
returns g c =
    session_ran c.args.settings (g.S.Source.reading c.args.source.now) (g.S.Source.reading c.serve-ended.new.source)
    (g.K.Sink.writing c.args.sink.now) (g.K.Sink.writing c.serve-ended.new.sink) c.serve-ended.result c.new-searcher.result.tally
    c.serve-ended.new.answerer.tally (record { status = c.status_of.result; tally = c.into_tally.result }) c.new-searcher.ensures
    c.into_tally.ensures c.status_of.ensures c.serve-ended.ensures.ends c.serve-ended.ensures.read_fault
    c.serve-ended.ensures.write_fault
