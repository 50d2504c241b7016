use Rattle.std.proofs.Common.{◌≤◌, ◌++◌, take}
use Rattle.hx_text.specs.StepTexts.{threat_line}
use Rattle.hx_text.specs.Spelling.{IsOut, each_line}
use Rattle.hx_text.proofs.writer.write_threats.Given as goal

abbrev pub invariant-loop-place : goal.invariant-loop-place
invariant-loop-place g l = record {
  out : IsOut (g.K.Sink.writing l.initial.sink).taken (g.K.Sink.writing l.sink).taken l.text
      (l.initial.text ++ each_line threat_line (take l.place-index l.threats));
  later : (g.K.Sink.writing l.initial.sink).faults ≤ (g.K.Sink.writing l.sink).faults;
}
