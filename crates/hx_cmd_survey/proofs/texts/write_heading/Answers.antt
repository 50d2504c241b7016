use Rattle.std.proofs.Common.{◌∙◌}
use Rattle.std.specs.Prelude.{codes}
use Rattle.hx_io.proofs.SinkLaws.{WritesAll-then, WritesAll-cut}
use Rattle.hx_answers.specs.Texts.{numbered_text, counted_text}
use Rattle.hx_cmd_survey.proofs.texts.write_heading.Goals as goal

pub returns-in-Ok : goal.returns-in-Ok
returns-in-Ok g c =
    WritesAll-then _ _ _ _ _ (numbered_text (codes "survey ") c.args.size.rows) (counted_text (codes " ") c.args.size.cols)
    (rw (c.from.ensures ∙ c.rows.ensures.value) at c.in-Ok.ensures)
    (rw (c.from-in-Ok.ensures ∙ c.cols.ensures.value) at c.write_counted.ensures)

pub returns-in-Err : goal.returns-in-Err
returns-in-Err g c =
    WritesAll-cut _ _ _ (numbered_text (codes "survey ") c.args.size.rows) (counted_text (codes " ") c.args.size.cols)
    (rw (c.from.ensures ∙ c.rows.ensures.value) at c.in-Err.ensures)
