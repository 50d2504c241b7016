use Rattle.std.proofs.Common.{◌≤◌, ◌++◌, take}
use Rattle.hx_text.specs.Spelling.{IsOut, parts_text}
use Rattle.hx_text.proofs.writer.write_parts.Given as goal

abbrev pub invariant-loop-part : goal.invariant-loop-part
invariant-loop-part g l = record {
  out : IsOut (g.K.Sink.writing l.initial.sink).taken (g.K.Sink.writing l.sink).taken l.text
      (l.initial.text ++ parts_text (take l.part-index l.parts));
  later : (g.K.Sink.writing l.initial.sink).faults ≤ (g.K.Sink.writing l.sink).faults;
}
