use Rattle.std.specs.Prelude.{codes}
use Rattle.hx_io.proofs.SinkLaws.{WritesAll-then, WritesAll-cut}
use Rattle.hx_answers.specs.Texts.{numbered_text}
use Rattle.hx_cmd_demo.specs.Answers.{positions}
use Rattle.hx_cmd_demo.proofs.answers.write_draws.Goals as goal

pub returns-in-Ok : goal.returns-in-Ok
returns-in-Ok g c =
    WritesAll-then _ _ _ _ _ (numbered_text (codes "demo ") c.args.seed) (numbered_text (codes " positions ") positions)
    c.in-Ok.ensures c.write_numbered-in-Ok.ensures

pub returns-in-Err : goal.returns-in-Err
returns-in-Err g c =
    WritesAll-cut _ _ _ (numbered_text (codes "demo ") c.args.seed) (numbered_text (codes " positions ") positions) c.in-Err.ensures
