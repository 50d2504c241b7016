use Rattle.std.proofs.Common.{rules, ap, ◌∙◌}
use Rattle.std.specs.Prelude.{Ok}
use Rattle.hx_lines.proofs.Endings.{ends_stopped, goes_on, ends_by_last, ends_in_reply, ends_unanswered}
use Rattle.hx_lines.proofs.serving.serve_line.Goals as goal

pub returns-in-Ok-true-clause-step : goal.returns-in-Ok-true-clause-step
returns-in-Ok-true-clause-step g c = λ start before taken count fits stands.
    ends_stopped g.V.Serves.service g.V.Serves.answers start c.args.service.now c.answer.new.self before taken count c.args.lines.now
    c.next-cut.new.self _ _ (g.K.Sink.writing c.args.sink.now) (g.K.Sink.writing c.answer.new.sink) _ c.line.ensures.bytes
    c.in-Ok-Line.ended c.answer.result fits stands c.next-cut.result
    (search rules) c.next-cut.ensures.cut
    c.answer.ensures.replies (c.in-Ok-true.is ∙ ap Ok c.in-Ok-true.field-0-test)

pub returns-in-Ok-false-clause-step : goal.returns-in-Ok-false-clause-step
returns-in-Ok-false-clause-step g c = λ start before taken count fits stands.
    goes_on g.V.Serves.service g.V.Serves.answers start c.args.service.now c.answer.new.self before taken count c.args.lines.now
    c.next-cut.new.self _ _ (g.K.Sink.writing c.args.sink.now) (g.K.Sink.writing c.answer.new.sink) _ c.line.ensures.bytes
    c.in-Ok-Line.ended c.answer.result fits stands c.next-cut.result
    (search rules) c.next-cut.ensures.cut
    c.answer.ensures.replies (c.in-Ok-false.is ∙ ap Ok c.in-Ok-false.field-0-test)
    c.if-ended.true

pub returns-in-Ok-false-2-clause-step : goal.returns-in-Ok-false-2-clause-step
returns-in-Ok-false-2-clause-step g c = λ start before taken count fits stands.
    ends_by_last g.V.Serves.service g.V.Serves.answers start c.args.service.now c.answer.new.self before taken count c.args.lines.now
    c.next-cut.new.self _ _ (g.K.Sink.writing c.args.sink.now) (g.K.Sink.writing c.answer.new.sink) _ c.line.ensures.bytes
    c.in-Ok-Line.ended c.answer.result fits stands c.next-cut.result
    (search rules) c.next-cut.ensures.cut
    c.answer.ensures.replies _ _
    (c.in-Ok-false.is ∙ ap Ok c.in-Ok-false.field-0-test) c.if-ended.false c.say_last.ensures.written

pub returns-in-Err-clause-step : goal.returns-in-Err-clause-step
returns-in-Err-clause-step g c = λ start before taken count fits stands.
    ends_in_reply g.V.Serves.service g.V.Serves.answers start c.args.service.now c.answer.new.self before taken count c.args.lines.now
    c.next-cut.new.self _ _ (g.K.Sink.writing c.args.sink.now) (g.K.Sink.writing c.answer.new.sink) _ c.line.ensures.bytes
    c.in-Ok-Line.ended c.answer.result fits stands c.next-cut.result
    (search rules) c.next-cut.ensures.cut
    c.answer.ensures.replies _ c.in-Err.is

pub returns-in_default-clause-step : goal.returns-in_default-clause-step
returns-in_default-clause-step g c = λ start before taken count fits stands.
    ends_unanswered g.V.Serves.service (g.V.Serves.answers start c.args.service.now) before taken count c.args.lines.now
    c.next-cut.new.self _ _ _ _ c.say_last-in_default.result stands c.next-cut.result c.next-cut.ensures.cut c.next-cut.ensures.failed c.next-cut.ensures.plain
    c.next-cut.ensures.short (λ ended is. absurd (search (rules, is))) (rw c.end_at.ensures at c.say_last-in_default.ensures.written)
