use Rattle.std.proofs.Common.{refl}
use Rattle.hx_cli.specs.declared.commands.Command.TheVariants.{Check, Solve, Htp, Demo, Play, Template, Survey}
use Rattle.hx_app.specs.Runs.{Searched, Served, Drew, Tabled}
use Rattle.hx_app.proofs.RunClauses.{checked_run, played_run, decided_run, kept}
use Rattle.hx_app.proofs.commands.run.Goals as goal

pub returns-in-Some-Check-clause-run : goal.returns-in-Some-Check-clause-run
returns-in-Some-Check-clause-run g c =
    checked_run _ (g.S.Source.reading c.args.source.now) (g.S.Source.reading c.run_check.new.source)
    (g.K.Sink.writing c.args.sink.now) (g.K.Sink.writing c.run_check.new.sink)
    c.run_check.result c.uncounted.result (rw c.in-Some-Check.field-0-is at c.in-Some-Check.ensures.finds)
    c.uncounted.ensures.status c.uncounted.ensures.tally c.run_check.ensures.run

pub returns-in-Some-Solve-clause-run : goal.returns-in-Some-Solve-clause-run
returns-in-Some-Solve-clause-run g c =
    Searched c.in-Some-Solve.settings c.in-Some-Solve.plain_tree
    (rw c.in-Some-Solve.field-0-is at c.in-Some-Solve.ensures.finds) c.run_solve.ensures.run

pub returns-in-Some-Solve-clause-solve : goal.returns-in-Some-Solve-clause-solve
returns-in-Some-Solve-clause-solve g c = λ settings plain_tree solve.
    kept _ (g.S.Source.reading c.args.source.now) (g.S.Source.reading c.run_solve.new.source)
    (g.K.Sink.writing c.args.sink.now) (g.K.Sink.writing c.run_solve.new.sink)
    c.run_solve.result (Solve c.in-Some-Solve.settings c.in-Some-Solve.plain_tree) (Solve settings plain_tree)
    (rw c.in-Some-Solve.field-0-is at c.in-Some-Solve.ensures.finds) solve c.run_solve.ensures.promises

pub returns-in-Some-Htp-clause-run : goal.returns-in-Some-Htp-clause-run
returns-in-Some-Htp-clause-run g c =
    Served c.in-Some-Htp.settings (rw c.in-Some-Htp.field-0-is at c.in-Some-Htp.ensures.finds) c.run_session.ensures.run

pub returns-in-Some-Htp-clause-htp : goal.returns-in-Some-Htp-clause-htp
returns-in-Some-Htp-clause-htp g c = λ settings session.
    kept _ (g.S.Source.reading c.args.source.now) (g.S.Source.reading c.run_session.new.source)
    (g.K.Sink.writing c.args.sink.now) (g.K.Sink.writing c.run_session.new.sink)
    c.run_session.result (Htp c.in-Some-Htp.settings) (Htp settings)
    (rw c.in-Some-Htp.field-0-is at c.in-Some-Htp.ensures.finds) session c.run_session.ensures.promises

pub returns-in-Some-Demo-clause-run : goal.returns-in-Some-Demo-clause-run
returns-in-Some-Demo-clause-run g c =
    Drew c.in-Some-Demo.seed c.in-Some-Demo.settings (rw c.in-Some-Demo.field-0-is at c.in-Some-Demo.ensures.finds) refl
    c.run_demo.ensures.run

pub returns-in-Some-Demo-clause-demo : goal.returns-in-Some-Demo-clause-demo
returns-in-Some-Demo-clause-demo g c = λ seed settings draw.
    kept _ (g.S.Source.reading c.args.source.now) (g.S.Source.reading c.args.source.now)
    (g.K.Sink.writing c.args.sink.now) (g.K.Sink.writing c.run_demo.new.sink)
    c.run_demo.result (Demo c.in-Some-Demo.seed c.in-Some-Demo.settings) (Demo seed settings)
    (rw c.in-Some-Demo.field-0-is at c.in-Some-Demo.ensures.finds) draw c.run_demo.ensures.promises

pub returns-in-Some-Play-clause-run : goal.returns-in-Some-Play-clause-run
returns-in-Some-Play-clause-run g c =
    played_run _ (g.S.Source.reading c.args.source.now) (g.S.Source.reading c.run_play.new.source)
    (g.K.Sink.writing c.args.sink.now) (g.K.Sink.writing c.run_play.new.sink)
    c.run_play.result c.uncounted-in-Some-Play.result (rw c.in-Some-Play.field-0-is at c.in-Some-Play.ensures.finds)
    c.uncounted-in-Some-Play.ensures.status c.uncounted-in-Some-Play.ensures.tally c.run_play.ensures.run

pub returns-in-Some-Template-clause-run : goal.returns-in-Some-Template-clause-run
returns-in-Some-Template-clause-run g c =
    decided_run _ (g.S.Source.reading c.args.source.now) (g.S.Source.reading c.run_template.new.source)
    (g.K.Sink.writing c.args.sink.now) (g.K.Sink.writing c.run_template.new.sink)
    c.run_template.result c.uncounted-in-Some-Template.result (rw c.in-Some-Template.field-0-is at c.in-Some-Template.ensures.finds)
    c.uncounted-in-Some-Template.ensures.status c.uncounted-in-Some-Template.ensures.tally c.run_template.ensures.run

pub returns-in-Some-Survey-clause-run : goal.returns-in-Some-Survey-clause-run
returns-in-Some-Survey-clause-run g c =
    Tabled c.in-Some-Survey.survey.size c.in-Some-Survey.survey.settings
    (rw c.in-Some-Survey.field-0-is at c.in-Some-Survey.ensures.finds) refl
    c.run_survey.ensures.run

pub returns-in-Some-Survey-clause-survey : goal.returns-in-Some-Survey-clause-survey
returns-in-Some-Survey-clause-survey g c = λ size settings table.
    kept _ (g.S.Source.reading c.args.source.now) (g.S.Source.reading c.args.source.now)
    (g.K.Sink.writing c.args.sink.now) (g.K.Sink.writing c.run_survey.new.sink)
    c.run_survey.result (Survey c.in-Some-Survey.survey) (Survey (record { size = size; settings = settings }))
    (rw c.in-Some-Survey.field-0-is at c.in-Some-Survey.ensures.finds) table c.run_survey.ensures.promises

pub returns-in-None-clause-check : goal.returns-in-None-clause-check
returns-in-None-clause-check g c = λ check. absurd (c.in-None.ensures.finds Check check)

pub returns-in-None-clause-solve : goal.returns-in-None-clause-solve
returns-in-None-clause-solve g c = λ settings plain_tree solve. absurd (c.in-None.ensures.finds (Solve settings plain_tree) solve)

pub returns-in-None-clause-htp : goal.returns-in-None-clause-htp
returns-in-None-clause-htp g c = λ settings session. absurd (c.in-None.ensures.finds (Htp settings) session)

pub returns-in-None-clause-demo : goal.returns-in-None-clause-demo
returns-in-None-clause-demo g c = λ seed settings draw. absurd (c.in-None.ensures.finds (Demo seed settings) draw)

pub returns-in-None-clause-unread : goal.returns-in-None-clause-unread
returns-in-None-clause-unread g c = λ seed settings draw. absurd (c.in-None.ensures.finds (Demo seed settings) draw)

pub returns-in-None-clause-play : goal.returns-in-None-clause-play
returns-in-None-clause-play g c = λ play. absurd (c.in-None.ensures.finds Play play)

pub returns-in-None-clause-template : goal.returns-in-None-clause-template
returns-in-None-clause-template g c = λ template. absurd (c.in-None.ensures.finds Template template)

pub returns-in-None-clause-survey : goal.returns-in-None-clause-survey
returns-in-None-clause-survey g c = λ size settings table. absurd (c.in-None.ensures.finds (Survey (record { size = size; settings = settings })) table)

pub returns-in-None-clause-unread_by_survey : goal.returns-in-None-clause-unread_by_survey
returns-in-None-clause-unread_by_survey g c = λ size settings table. absurd (c.in-None.ensures.finds (Survey (record { size = size; settings = settings })) table)
