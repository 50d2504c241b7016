-- The letters of the cells before were written.
use Rattle.std.proofs.Common.{◌≡◌, ◌≤◌}
use Rattle.hx_io.specs.Sinks.{append}
use Rattle.hx_cmd_survey.specs.Texts.{letters}
use Rattle.hx_cmd_survey.proofs.texts.write_letters.Given as goal

abbrev pub invariant-loop-col : goal.invariant-loop-col
invariant-loop-col g l = record {
  out : (g.K.Sink.writing l.sink).taken ≡ append (g.K.Sink.writing l.initial.sink).taken (letters l.table.cells_of_black l.row l.col);
  later : (g.K.Sink.writing l.initial.sink).faults ≤ (g.K.Sink.writing l.sink).faults;
}
