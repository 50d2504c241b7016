use Rattle.std.specs.Prelude.{codes}
use Rattle.hx_io.proofs.SinkLaws.{WritesAll-then, WritesAll-cut}
use Rattle.hx_answers.specs.Texts.{numbered_text}
use Rattle.hx_cmd_demo.proofs.answers.write_wins.Goals as goal

pub returns-in-Ok : goal.returns-in-Ok
returns-in-Ok g c =
    WritesAll-then _ _ _ _ _ (numbered_text (codes " black ") c.args.wins.now.black) (numbered_text (codes " white ") c.args.wins.now.white)
    c.in-Ok.ensures c.write_numbered-in-Ok.ensures

pub returns-in-Err : goal.returns-in-Err
returns-in-Err g c =
    WritesAll-cut _ _ _ (numbered_text (codes " black ") c.args.wins.now.black)
    (numbered_text (codes " white ") c.args.wins.now.white) c.in-Err.ensures
