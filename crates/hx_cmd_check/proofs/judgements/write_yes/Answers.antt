use Rattle.hx_io.proofs.SinkLaws.{WritesAll-then, WritesAll-cut}
use Rattle.hx_text.specs.PositionTexts.{position_text}
use Rattle.hx_cmd_check.specs.Judgements.{yes_line}
use Rattle.hx_cmd_check.proofs.judgements.write_yes.Goals as goal

pub returns-in-Ok : goal.returns-in-Ok
returns-in-Ok g c =
    WritesAll-then _ _ _ _ c.write_position.result (yes_line c.args.root.now.winner)
    (position_text c.args.root.now.position c.args.root.now.to_move) (rw c.yes_line.ensures at c.in-Ok.ensures)
    (record { bytes = c.write_position.ensures.bytes; cause = c.write_position.ensures.cause })

pub returns-in-Err : goal.returns-in-Err
returns-in-Err g c =
    WritesAll-cut _ _ _ (yes_line c.args.root.now.winner)
    (position_text c.args.root.now.position c.args.root.now.to_move) (rw c.yes_line.ensures at c.in-Err.ensures)
