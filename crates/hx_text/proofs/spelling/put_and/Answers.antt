use Rattle.hx_text.proofs.Spelled.{and_spelled}
use Rattle.hx_text.proofs.spelling.put_and.Goals as goal

pub returns : goal.returns
returns c =
    rw (c.put-3.ensures, c.put_number-2.ensures.text, c.put-2.ensures, c.put_number.ensures.text, c.put.ensures)
    (and_spelled c.args.text.now c.args.word.now c.args.left c.args.right)
