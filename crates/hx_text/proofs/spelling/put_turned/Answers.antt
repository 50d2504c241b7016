use Rattle.hx_text.proofs.Spelled.{turned_spelled}
use Rattle.hx_text.proofs.spelling.put_turned.Goals as goal

pub returns-clause-text : goal.returns-clause-text
returns-clause-text c = rw (c.put_number.ensures.text, c.put.ensures) (turned_spelled c.args.text.now c.args.child)
