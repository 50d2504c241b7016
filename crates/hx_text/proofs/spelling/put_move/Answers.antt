use Rattle.hx_text.proofs.Spelled.{move_spelled}
use Rattle.hx_text.proofs.spelling.put_move.Goals as goal

pub returns : goal.returns
returns c = rw (c.put-2.ensures, c.put_colour.ensures.text, c.put.ensures) (move_spelled c.args.text.now c.args.to_move)
