use Rattle.std.proofs.Common.{rules, ◌≡◌, ap, ◌∙◌}
use Rattle.hx_io.specs.Sources.{prepend}
use Rattle.hx_io.proofs.SourceLaws.{prepend-nil}
use Rattle.hx_lines.specs.Cutters.{Cutter}
use Rattle.hx_lines.proofs.Endings.{ends_as}
use Rattle.hx_htp.specs.Sessions.{moment}
use Rattle.hx_htp.specs.States.{fresh}
use Rattle.hx_cmd_htp.specs.Serving.{session_service, session_answers}
use Rattle.hx_cmd_htp.specs.Standings.{runs_to}
use Rattle.hx_cmd_htp.proofs.Steps.{completes}
use Rattle.hx_cmd_htp.proofs.serving.serve.Goals as goal

pub returns-clause-ends : goal.returns-clause-ends
returns-clause-ends g c =
    let start = g.A.Answerer.account c.args.answerer.now in
    let now = g.A.Answerer.account c.serve.new.service.answerer.now in
    let state = c.serve.new.service.session in
    let left = (g.S.Source.reading c.args.source.now).left in
    let first : prepend c.new.result.held left ≡ left = ap (λ (lines : Cutter). prepend lines.held left) c.new.ensures ∙ prepend-nil left in
    let ends = ends_as session_service (runs_to (moment fresh start) (moment state now)) (session_answers start now) left
    (g.S.Source.reading c.serve.new.source).left (g.K.Sink.writing c.args.sink.now).taken (g.K.Sink.writing c.serve.new.sink).taken
    (completes start state now) c.serve.result (rw (c.new-2.ensures.fresh, c.new-2.ensures.now, first) at c.serve.ensures.ends) in
    search (rules, ends)
