use Rattle.std.proofs.Common.{◌≡◌, ◌≤◌, true}
use Rattle.hx_io.specs.Sources.{IsAtEnd, prepend}
use Rattle.hx_lines.specs.Services.{Stands}
use Rattle.hx_lines.proofs.serving.serve.Given as goal

abbrev pub invariant-loop : goal.invariant-loop
invariant-loop g l = record {
  stands : Stands (g.V.Serves.answers l.fn.service l.service)
      (prepend l.fn.lines.held (g.S.Source.reading l.fn.source).left) (g.K.Sink.writing l.fn.sink).taken
      l.counter l.lines.held (g.S.Source.reading l.source).left (g.K.Sink.writing l.sink).taken;
  waiting : g.V.Serves.is_waiting l.service;
  behind : g.V.Serves.behind l.service ≡ g.V.Serves.behind l.fn.service;
  met_end : l.lines.met_end ≡ true → IsAtEnd (g.S.Source.reading l.source).left;
  reads : (g.S.Source.reading l.fn.source).faults ≤ (g.S.Source.reading l.source).faults;
  writes : (g.K.Sink.writing l.fn.sink).faults ≤ (g.K.Sink.writing l.sink).faults;
}
