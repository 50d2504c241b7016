use Rattle.hx_lines.proofs.CutterLaws.{stays_here, ended_line, too_long_before_lf}
use Rattle.hx_lines.proofs.cutters.LineCutter.cut.Goals as goal

pub returns-in-Some-clause-cut : goal.returns-in-Some-clause-cut
returns-in-Some-clause-cut c = λ left _.
    ended_line c.args.self.now c.take_ended.new.self left c.held-held.result.now c.in-Some.place c.held-held.ensures.held
    c.take_ended.ensures.line c.take_ended.ensures.held
    c.in-Some.ensures.2 c.if-place-le-LONGEST.true

pub returns-in-Some-2-clause-cut : goal.returns-in-Some-2-clause-cut
returns-in-Some-2-clause-cut c = λ left _. (
  stays_here c.args.self.now left,
  too_long_before_lf c.args.self.now c.held-held.result.now c.in-Some.place c.held-held.ensures.held c.in-Some.ensures.0 c.in-Some.ensures.2
      c.if-place-le-LONGEST.false,
)
