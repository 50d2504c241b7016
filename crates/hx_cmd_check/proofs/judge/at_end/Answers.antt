use Rattle.std.proofs.Common.{ℕ, ◌+◌, ap, subst}
use Rattle.hx_lines.specs.declared.cutters.Cut.{Cut}
use Rattle.hx_lines.specs.declared.cutters.Cut.TheVariants.{Line, TooLong, Over}
use Rattle.hx_lines.specs.Cutters.{IsCut}
use Rattle.hx_cmd_check.specs.Judging.{NodesAreRight}
use Rattle.hx_cmd_check.proofs.DueAnswers.{long_answer, fault_answer, due_next}
use Rattle.hx_cmd_check.proofs.Endings.{yes_answer, surplus_answer, judged_some}
use Rattle.hx_cmd_check.proofs.judge.at_end.Goals as goal

pub returns-in-Some-clause-due : goal.returns-in-Some-clause-due
returns-in-Some-clause-due g c = λ before nodes lines upto.
    let P : Cut → Type 0 = IsCut c.args.cutter.now c.next.new.self (g.S.Source.reading c.args.source.now).left
    (g.S.Source.reading c.next.new.source).left in
    let cut : P Over = subst P c.in-Ok-Over.field-0-is c.in-Ok-Over.ensures.cut in
    yes_answer before c.args.judge.now nodes lines c.args.cutter.now c.next.new.self _ _ upto c.requires.whole _ c.in-Some.ensures cut

pub unreachable-requires : goal.unreachable-requires
unreachable-requires g c =
    judged_some c.args.judge.now c.requires.judged.nodes c.requires.judged.lines c.requires.judged.judged c.requires.whole
    c.in-None.ensures

pub returns-in-Ok-Line-clause-due : goal.returns-in-Ok-Line-clause-due
returns-in-Ok-Line-clause-due g c = λ before nodes lines upto.
    let P : Cut → Type 0 = IsCut c.args.cutter.now c.next.new.self (g.S.Source.reading c.args.source.now).left
    (g.S.Source.reading c.next.new.source).left in
    let cut : P (Line c.in-Ok-Line.field-0-0) = subst P c.in-Ok-Line.field-0-is c.in-Ok-Line.ensures.cut in
    due_next NodesAreRight before _ _ c.args.judge.now nodes lines _ _ upto.judged c.lines.ensures c.next_line_is_wrong.ensures
    (surplus_answer before c.args.judge.now nodes lines c.args.cutter.now c.next.new.self _ _ upto c.requires.whole NodesAreRight
    upto.judged.right c.in-Ok-Line.field-0-0 _ cut (ap (λ (n : ℕ). n + 1) c.lines.ensures))

pub returns-in-Ok-TooLong-clause-due : goal.returns-in-Ok-TooLong-clause-due
returns-in-Ok-TooLong-clause-due g c = λ before nodes lines upto.
    let P : Cut → Type 0 = IsCut c.args.cutter.now c.next.new.self (g.S.Source.reading c.args.source.now).left
    (g.S.Source.reading c.next.new.source).left in
    let cut : P TooLong = subst P c.in-Ok-TooLong.field-0-is c.in-Ok-TooLong.ensures.cut in
    long_answer NodesAreRight before c.args.judge.now nodes lines c.args.cutter.now c.next.new.self _ _ upto upto.judged.right cut

pub returns-in-Err-clause-due : goal.returns-in-Err-clause-due
returns-in-Err-clause-due g c = λ before nodes lines upto. (
  c.in-Err.ensures.cause.failed,
  fault_answer NodesAreRight before c.args.judge.now nodes lines c.args.cutter.now c.next.new.self _ _ upto upto.judged.right
      c.in-Err.ensures.failed c.in-Err.ensures.plain c.in-Err.ensures.short,
)
