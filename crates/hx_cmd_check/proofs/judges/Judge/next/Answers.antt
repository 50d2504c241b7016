use Rattle.std.proofs.Common.{ℕ, ◌+◌, ap, refl, subst}
use Rattle.hx_lines.specs.declared.cutters.Cut.{Cut}
use Rattle.hx_lines.specs.declared.cutters.Cut.TheVariants.{Line, TooLong, Over}
use Rattle.hx_lines.specs.Cutters.{IsCut}
use Rattle.hx_cmd_check.specs.Judging.{AreThese}
use Rattle.hx_cmd_check.proofs.JudgedNodes.{judged_more}
use Rattle.hx_cmd_check.proofs.DueAnswers.{ended_cut, long_answer, fault_answer, missing_answer, wrong_answer, many_answer, node_answer}
use Rattle.hx_cmd_check.proofs.DueAnswers.{due_next}
use Rattle.hx_cmd_check.proofs.Endings.{judged_end}
use Rattle.hx_cmd_check.proofs.judges.Judge.next.Goals as goal

pub returns-in-Ok-More-clause-brings : goal.returns-in-Ok-More-clause-brings
returns-in-Ok-More-clause-brings g c = λ before nodes lines upto.
    let P : Cut → Type 0 = IsCut c.args.cutter.now c.next.new.self (g.S.Source.reading c.args.source.now).left
    (g.S.Source.reading c.next.new.source).left in
    let cut : P (Line c.in-Ok-Line.ended) = subst P c.in-Ok-Line.field-0-is c.in-Ok-Line.ensures.cut in
    let says = rw (c.in-Ok-More.field-0-is, c.line.ensures.bytes) at c.in-Ok-More.ensures.says in
    let told = says nodes lines upto.judged.read in (
      told.1.0,
      judged_more before c.args.self.now _ nodes lines c.args.cutter.now c.next.new.self _ _ upto
          (ended_cut c.in-Ok-Line.ended _ _ _ _ told.0 cut) c.in-Ok-More.ensures.count refl told.1.1,
    )

pub returns-in-Ok-Node-clause-brings : goal.returns-in-Ok-Node-clause-brings
returns-in-Ok-Node-clause-brings g c = λ before nodes lines upto.
    let P : Cut → Type 0 = IsCut c.args.cutter.now c.next.new.self (g.S.Source.reading c.args.source.now).left
    (g.S.Source.reading c.next.new.source).left in
    let cut : P (Line c.in-Ok-Line.ended) = subst P c.in-Ok-Line.field-0-is c.in-Ok-Line.ensures.cut in
    let says = rw (c.in-Ok-Node.field-0-is, c.in-Ok-Node.node-is, c.line.ensures.bytes) at c.in-Ok-Node.ensures.says in
    let told = says nodes lines upto.judged.read in
    node_answer before c.args.self.now _ nodes lines c.args.cutter.now c.next.new.self _ _ upto _ _ c.judge_node.result
    (ended_cut c.in-Ok-Line.ended _ _ _ _ told.0 cut) c.in-Ok-Node.ensures.count told.1.0 told.1.1 c.judge_node.ensures

pub returns-in-Ok-End-clause-brings : goal.returns-in-Ok-End-clause-brings
returns-in-Ok-End-clause-brings g c = λ before nodes lines upto.
    let P : Cut → Type 0 = IsCut c.args.cutter.now c.next.new.self (g.S.Source.reading c.args.source.now).left
    (g.S.Source.reading c.next.new.source).left in
    let cut : P (Line c.in-Ok-Line.ended) = subst P c.in-Ok-Line.field-0-is c.in-Ok-Line.ensures.cut in
    let says = rw (c.in-Ok-End.field-0-is, c.line.ensures.bytes) at c.in-Ok-End.ensures.says in
    let told = says nodes lines upto.judged.read in (
      (told.1.0, told.1.1),
      judged_more before c.args.self.now _ nodes lines c.args.cutter.now c.next.new.self _ _ upto
          (ended_cut c.in-Ok-Line.ended _ _ _ _ told.0 cut) c.in-Ok-End.ensures.count refl
          (judged_end (record { reader = c.feed.new.self; checker = c.args.self.now.checker }) nodes _ _ told.1),
    )

pub returns-in-Err-Text-clause-brings : goal.returns-in-Err-Text-clause-brings
returns-in-Err-Text-clause-brings g c = λ before nodes lines upto.
    let P : Cut → Type 0 = IsCut c.args.cutter.now c.next.new.self (g.S.Source.reading c.args.source.now).left
    (g.S.Source.reading c.next.new.source).left in
    let cut : P (Line c.in-Ok-Line.ended) = subst P c.in-Ok-Line.field-0-is c.in-Ok-Line.ensures.cut in
    let says = rw (c.in-Err-Text.field-0-is, c.line.ensures.bytes) at c.in-Err-Text.ensures.says in
    let told = says nodes lines upto.judged.read in
    wrong_answer (AreThese lines nodes) before c.args.self.now nodes lines c.args.cutter.now c.next.new.self _ _ upto (refl, refl)
    c.in-Ok-Line.ended c.feed.new.self.fed _ cut c.requires.unended c.in-Err-Text.ensures.count told

pub returns-in-Err-TooMany-clause-brings : goal.returns-in-Err-TooMany-clause-brings
returns-in-Err-TooMany-clause-brings g c = λ before nodes lines upto.
    let P : Cut → Type 0 = IsCut c.args.cutter.now c.next.new.self (g.S.Source.reading c.args.source.now).left
    (g.S.Source.reading c.next.new.source).left in
    let cut : P (Line c.in-Ok-Line.ended) = subst P c.in-Ok-Line.field-0-is c.in-Ok-Line.ensures.cut in
    let says = rw (c.in-Err-TooMany.field-0-is, c.line.ensures.bytes) at c.in-Err-TooMany.ensures.says in
    let told = says nodes lines upto.judged.read in
    many_answer (AreThese lines nodes) before c.args.self.now nodes lines c.args.cutter.now c.next.new.self _ _ upto (refl, refl)
    (ended_cut c.in-Ok-Line.ended _ _ _ _ told.0 cut) (told.2, told.3)

pub returns-in-Ok-TooLong-clause-brings : goal.returns-in-Ok-TooLong-clause-brings
returns-in-Ok-TooLong-clause-brings g c = λ before nodes lines upto.
    let P : Cut → Type 0 = IsCut c.args.cutter.now c.next.new.self (g.S.Source.reading c.args.source.now).left
    (g.S.Source.reading c.next.new.source).left in
    let cut : P TooLong = subst P c.in-Ok-TooLong.field-0-is c.in-Ok-TooLong.ensures.cut in
    long_answer (AreThese lines nodes) before c.args.self.now nodes lines c.args.cutter.now c.next.new.self _ _ upto (refl, refl) cut

pub returns-in-Ok-Over-clause-brings : goal.returns-in-Ok-Over-clause-brings
returns-in-Ok-Over-clause-brings g c = λ before nodes lines upto.
    let P : Cut → Type 0 = IsCut c.args.cutter.now c.next.new.self (g.S.Source.reading c.args.source.now).left
    (g.S.Source.reading c.next.new.source).left in
    let cut : P Over = subst P c.in-Ok-Over.field-0-is c.in-Ok-Over.ensures.cut in
    due_next (AreThese lines nodes) before _ _ c.args.self.now nodes lines _ _ upto.judged c.lines.ensures c.next_line_is_wrong.ensures
    (missing_answer (AreThese lines nodes) before c.args.self.now nodes lines c.args.cutter.now c.next.new.self _ _ upto (refl, refl) _ cut
    c.requires.unended (ap (λ (n : ℕ). n + 1) c.lines.ensures))

pub returns-in-Err-clause-brings : goal.returns-in-Err-clause-brings
returns-in-Err-clause-brings g c = λ before nodes lines upto. (
  c.in-Err.ensures.cause.failed,
  fault_answer (AreThese lines nodes) before c.args.self.now nodes lines c.args.cutter.now c.next.new.self _ _ upto (refl, refl)
      c.in-Err.ensures.failed c.in-Err.ensures.plain c.in-Err.ensures.short,
)
