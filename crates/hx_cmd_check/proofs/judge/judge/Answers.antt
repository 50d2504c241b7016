use Rattle.std.proofs.Common.{[], ◌∷◌, ◌++◌, ap, subst, arith, rules, length-append}
use Rattle.std.specs.declared.result.Result.TheVariants.{Ok}
use Rattle.hx_io.specs.Sources.{SomeReadFailed}
use Rattle.hx_lines.specs.Cutters.{Cutter}
use Rattle.hx_io.proofs.CauseLaws.{rose_from_earlier}
use Rattle.hx_cmd_check.specs.Judging.{NodesAreRight}
use Rattle.hx_cmd_check.specs.declared.judges.Brought.{Brought}
use Rattle.hx_cmd_check.specs.declared.judges.Brought.TheVariants.{Line, Node, End}
use Rattle.hx_cmd_check.specs.Standings.{Brings}
use Rattle.hx_cmd_check.proofs.Demands.{due_behind}
use Rattle.hx_cmd_check.proofs.JudgedNodes.{judged_nothing, few_lines}
use Rattle.hx_cmd_check.proofs.DueAnswers.{due_later, fault_due_later}
use Rattle.hx_cmd_check.proofs.judge.judge.Goals as goal

pub loop-init : goal.loop-init
loop-init g c = record {
  nodes = [];
  lines = [];
  upto = judged_nothing (g.S.Source.reading c.args.source.now).left c.new-judge.result c.new-cutter.result.held
      c.new-judge.ensures.nothing (ap (λ (s : Cutter). s.held) c.new-cutter.ensures);
  unended = c.new-judge.ensures.unended;
  counted = omega arith;
  met_end = λ met. absurd (search rules);
  reads = omega arith;
}

pub at_end-requires-clause-judged : goal.at_end-requires-clause-judged
at_end-requires-clause-judged g c =
    let at = c.loop.invariant in
    let P : Brought → Type 0 = λ brought. Brings (g.S.Source.reading c.args.source.now).left at.nodes at.lines c.next.new.self
    c.next.new.cutter (g.S.Source.reading c.next.new.source).left
    (SomeReadFailed (g.S.Source.reading c.loop.source) (g.S.Source.reading c.next.new.source)) (Ok brought) in
    let told : P End = subst P c.in-Ok-End.field-0-is (c.in-Ok-End.ensures.brings _ at.nodes at.lines at.upto) in
    record { nodes = at.nodes; lines = at.lines ++ c.next.new.cutter.line ∷ []; judged = told.1.judged }

pub at_end-requires-clause-whole : goal.at_end-requires-clause-whole
at_end-requires-clause-whole g c =
    let at = c.loop.invariant in
    let P : Brought → Type 0 = λ brought. Brings (g.S.Source.reading c.args.source.now).left at.nodes at.lines c.next.new.self
    c.next.new.cutter (g.S.Source.reading c.next.new.source).left
    (SomeReadFailed (g.S.Source.reading c.loop.source) (g.S.Source.reading c.next.new.source)) (Ok brought) in
    let told : P End = subst P c.in-Ok-End.field-0-is (c.in-Ok-End.ensures.brings _ at.nodes at.lines at.upto) in
    told.0

pub returns-in-Ok-End : goal.returns-in-Ok-End
returns-in-Ok-End g c =
    let at = c.loop.invariant in
    let P : Brought → Type 0 = λ brought. Brings (g.S.Source.reading c.args.source.now).left at.nodes at.lines c.next.new.self
    c.next.new.cutter (g.S.Source.reading c.next.new.source).left
    (SomeReadFailed (g.S.Source.reading c.loop.source) (g.S.Source.reading c.next.new.source)) (Ok brought) in
    let told : P End = subst P c.in-Ok-End.field-0-is (c.in-Ok-End.ensures.brings _ at.nodes at.lines at.upto) in
    due_later _ _ _ _ c.at_end.result (rose_from_earlier _ _ _ (omega (arith, at.reads, c.in-Ok-End.ensures.later)))
    (c.at_end.ensures.due _ at.nodes _ told.1)

pub returns-in-Err : goal.returns-in-Err
returns-in-Err g c =
    let at = c.loop.invariant in
    fault_due_later NodesAreRight _ _ _ _ c.in-Err.fault (rose_from_earlier _ _ _ at.reads)
    (due_behind NodesAreRight at.lines at.nodes at.upto.judged.right _ _ _ c.in-Err.fault (c.in-Err.ensures.brings _ at.nodes at.lines at.upto))

pub loop-preserved-in-Ok-Line : goal.loop-preserved-in-Ok-Line
loop-preserved-in-Ok-Line g c =
    let at = c.loop.invariant in
    let P : Brought → Type 0 = λ brought. Brings (g.S.Source.reading c.args.source.now).left at.nodes at.lines c.next.new.self
    c.next.new.cutter (g.S.Source.reading c.next.new.source).left
    (SomeReadFailed (g.S.Source.reading c.loop.source) (g.S.Source.reading c.next.new.source)) (Ok brought) in
    let told : P Line = subst P c.in-Ok-Line.field-0-is (c.in-Ok-Line.ensures.brings _ at.nodes at.lines at.upto) in
    record {
      nodes = at.nodes;
      lines = at.lines ++ c.next.new.cutter.line ∷ [];
      upto = told.1;
      unended = told.0;
      counted = omega (arith, at.counted, length-append at.lines (c.next.new.cutter.line ∷ []));
      met_end = c.in-Ok-Line.ensures.met_end;
      reads = omega (arith, at.reads, c.in-Ok-Line.ensures.later);
    }

pub loop-preserved : goal.loop-preserved
loop-preserved g c =
    let at = c.loop.invariant in
    let P : Brought → Type 0 = λ brought. Brings (g.S.Source.reading c.args.source.now).left at.nodes at.lines c.next.new.self
    c.next.new.cutter (g.S.Source.reading c.next.new.source).left
    (SomeReadFailed (g.S.Source.reading c.loop.source) (g.S.Source.reading c.next.new.source)) (Ok brought) in
    let told : P (Node c.in-Ok-Node.field-0-0) =
    subst P c.in-Ok-Node.field-0-is (c.in-Ok-Node.ensures.brings _ at.nodes at.lines at.upto) in
    record {
      nodes = at.nodes ++ c.in-Ok-Node.field-0-0 ∷ [];
      lines = at.lines ++ c.next.new.cutter.line ∷ [];
      upto = told.1;
      unended = told.0;
      counted = omega (arith, at.counted, length-append at.lines (c.next.new.cutter.line ∷ []));
      met_end = c.in-Ok-Node.ensures.met_end;
      reads = omega (arith, at.reads, c.in-Ok-Node.ensures.later);
    }

pub unreachable-requires : goal.unreachable-requires
unreachable-requires g c =
    let at = c.loop.invariant in omega (arith, at.counted, few_lines c.loop.judge at.nodes at.lines at.upto.judged, c.loop-test.false)
