use Rattle.std.proofs.Common.{◌++◌}
use Rattle.hx_io.proofs.SinkLaws.{WritesAll-then, WritesAll-cut}
use Rattle.hx_cmd_survey.specs.Texts.{survey_line, row_lines, counts_line}
use Rattle.hx_cmd_survey.proofs.texts.write_table.Goals as goal

pub returns-in-Err : goal.returns-in-Err
returns-in-Err g c =
    let size = c.args.table.now.size in
    let black = c.args.table.now.cells_of_black in
    WritesAll-cut {T = Unit {0}} _ _ _ (survey_line size ++ row_lines black size.cols size.rows) (counts_line size black)
    (WritesAll-cut _ _ _ (survey_line size) (row_lines black size.cols size.rows) (rw c.size.ensures at c.in-Err.ensures))

pub returns-in-Err-write_rows : goal.returns-in-Err-write_rows
returns-in-Err-write_rows g c =
    let size = c.args.table.now.size in
    let black = c.args.table.now.cells_of_black in
    WritesAll-cut _ _ _ (survey_line size ++ row_lines black size.cols size.rows) (counts_line size black)
    (WritesAll-then _ _ _ _ _ (survey_line size) (row_lines black size.cols size.rows)
    (rw c.size.ensures at c.in-Ok.ensures) c.in-Err-write_rows.ensures)

pub returns-in-Ok-write_rows : goal.returns-in-Ok-write_rows
returns-in-Ok-write_rows g c =
    let size = c.args.table.now.size in
    let black = c.args.table.now.cells_of_black in
    WritesAll-then _ _ _ _ _ (survey_line size ++ row_lines black size.cols size.rows) (counts_line size black)
    (WritesAll-then _ _ _ _ _ (survey_line size) (row_lines black size.cols size.rows)
    (rw c.size.ensures at c.in-Ok.ensures) c.in-Ok-write_rows.ensures)
    c.write_counts.ensures
