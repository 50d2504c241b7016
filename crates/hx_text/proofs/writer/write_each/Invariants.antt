use Rattle.std.proofs.Common.{◌≤◌, ◌++◌, take}
use Rattle.hx_text.specs.Spelling.{IsOut, each_line}
use Rattle.hx_text.proofs.writer.write_each.Given as goal

abbrev pub invariant-loop-item : goal.invariant-loop-item
invariant-loop-item g l = record {
  out : IsOut (g.K.Sink.writing l.initial.sink).taken (g.K.Sink.writing l.sink).taken l.text
      (l.initial.text ++ each_line g.T.Lined.line (take l.item-index l.items));
  later : (g.K.Sink.writing l.initial.sink).faults ≤ (g.K.Sink.writing l.sink).faults;
}
