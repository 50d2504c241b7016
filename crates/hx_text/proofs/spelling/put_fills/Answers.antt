use Rattle.hx_text.proofs.Spelled.{fills_spelled}
use Rattle.hx_text.proofs.spelling.put_fills.Goals as goal

pub returns-clause-text : goal.returns-clause-text
returns-clause-text c =
    rw (c.put_number-2.ensures.text, c.put-2.ensures, c.put_number.ensures.text, c.put.ensures)
    (fills_spelled c.args.text.now c.args.fills c.args.child)
