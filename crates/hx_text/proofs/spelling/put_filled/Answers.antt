use Rattle.hx_text.proofs.Spelled.{filled_spelled}
use Rattle.hx_text.proofs.spelling.put_filled.Goals as goal

pub returns : goal.returns
returns c = rw (c.put-2.ensures, c.put_cell.ensures.text, c.put.ensures) (filled_spelled c.args.text.now c.args.word.now c.args.cell)
