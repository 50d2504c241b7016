use Rattle.std.proofs.Common.{sym, ap, ◌∙◌, arith}
use Rattle.hx_board.specs.Cells.{Extent}
use Rattle.hx_io.specs.Sinks.{append}
use Rattle.hx_io.proofs.SinkLaws.{append-nil}
use Rattle.hx_cmd_survey.specs.Texts.{row_line, row_lines}
use Rattle.hx_cmd_survey.proofs.Fronts.{one_more, cut_short}
use Rattle.hx_cmd_survey.proofs.Rows.{row_lines-none, row_lines-next}
use Rattle.hx_cmd_survey.proofs.texts.write_rows.Goals as goal

pub loop-row-init : goal.loop-row-init
loop-row-init g c = record {
  out = sym (ap (append (g.K.Sink.writing c.args.sink.now).taken)
      (row_lines-none c.args.table.now.cells_of_black c.args.table.now.size.cols)
      ∙ append-nil (g.K.Sink.writing c.args.sink.now).taken);
  later = omega arith;
}

pub returns-in-Err : goal.returns-in-Err
returns-in-Err g c = record {
  bytes = cut_short (row_lines c.args.table.now.cells_of_black c.args.table.now.size.cols)
      (row_line c.args.table.now.cells_of_black c.args.table.now.size.cols)
      (row_lines-next c.args.table.now.cells_of_black c.args.table.now.size.cols) _ _ _ c.loop-row.row c.args.table.now.size.rows
      (omega (arith, c.loop-row-test.true, c.rows-row-end.ensures.value, ap (λ (s : Extent). s.rows) c.size.ensures)) c.loop-row.invariant.out c.in-Err.ensures.bytes;
  cause = record {
    later = omega (arith, c.loop-row.invariant.later, c.in-Err.ensures.cause.later);
    failed = omega (arith, c.loop-row.invariant.later, c.in-Err.ensures.cause.failed);
  };
}

pub loop-row-preserved : goal.loop-row-preserved
loop-row-preserved g c = record {
  out = one_more (row_lines c.args.table.now.cells_of_black c.args.table.now.size.cols)
      (row_line c.args.table.now.cells_of_black c.args.table.now.size.cols)
      (row_lines-next c.args.table.now.cells_of_black c.args.table.now.size.cols) _ _ _ c.loop-row.row c.loop-row.invariant.out
      c.in-Ok.ensures.bytes;
  later = omega (arith, c.loop-row.invariant.later, c.in-Ok.ensures.cause.later);
}
