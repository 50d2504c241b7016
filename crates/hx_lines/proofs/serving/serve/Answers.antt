use Rattle.std.proofs.Common.{◌≡◌, arith}
use Rattle.hx_lines.specs.Services.{most_lines}
use Rattle.hx_lines.proofs.Endings.{ends_in_opening, ends_unanswered}
use Rattle.hx_lines.proofs.serving.serve.Goals as goal

pub returns-in-Err-clause-ends : goal.returns-in-Err-clause-ends
returns-in-Err-clause-ends g c =
    ends_in_opening g.V.Serves.service (g.V.Serves.answers c.args.service.now c.open.new.self) _ _ c.args.lines.now.held
    (g.K.Sink.writing c.args.sink.now) (g.K.Sink.writing c.open.new.sink) c.open.result c.open.ensures.replies _ c.in-Err.is

pub returns-in-Some-clause-ends : goal.returns-in-Some-clause-ends
returns-in-Some-clause-ends g c = c.in-Some.ensures.step _ _ _ _ (omega arith) c.loop.invariant.stands

pub returns-clause-ends : goal.returns-clause-ends
returns-clause-ends g c =
    let count : c.loop.counter ≡ most_lines = omega arith in
    ends_unanswered g.V.Serves.service (g.V.Serves.answers c.args.service.now c.loop.service) _ _ c.loop.counter c.loop.lines
    c.next.new.self _ _ _ _ c.say_last.result c.loop.invariant.stands c.next.result c.next.ensures.cut c.next.ensures.failed
    c.next.ensures.plain c.next.ensures.short (λ ended is. count) (rw c.end_at.ensures at c.say_last.ensures.written)
