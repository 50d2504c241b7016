use Rattle.hx_cmd_htp.proofs.SessionPromises.{kept}
use Rattle.hx_cmd_htp.proofs.sessions.run_session.Goals as goal

pub returns-clause-promises : goal.returns-clause-promises
returns-clause-promises g c =
    kept c.args.settings (g.S.Source.reading c.args.source.now) (g.S.Source.reading c.serve_lines.new.source)
    (g.K.Sink.writing c.args.sink.now) (g.K.Sink.writing c.serve_lines.new.sink) _
    c.only_lines_above_a_limit_are_too_long.ensures c.only_lines_within_the_limits_are_done.ensures
    c.named_players_win.ensures c.open_questions_are_counted.ensures c.serve_lines.ensures
