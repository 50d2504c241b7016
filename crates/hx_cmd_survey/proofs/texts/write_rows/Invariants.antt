-- The rows above were written.
use Rattle.std.proofs.Common.{◌≡◌, ◌≤◌}
use Rattle.hx_io.specs.Sinks.{append}
use Rattle.hx_cmd_survey.specs.Texts.{row_lines}
use Rattle.hx_cmd_survey.proofs.texts.write_rows.Given as goal

abbrev pub invariant-loop-row : goal.invariant-loop-row
invariant-loop-row g l = record {
  out : (g.K.Sink.writing l.sink).taken
      ≡ append (g.K.Sink.writing l.initial.sink).taken (row_lines l.table.cells_of_black l.table.size.cols l.row);
  later : (g.K.Sink.writing l.initial.sink).faults ≤ (g.K.Sink.writing l.sink).faults;
}
