use Rattle.hx_text.proofs.Spelled.{child_spelled}
use Rattle.hx_text.proofs.spelling.put_child.Goals as goal

pub returns : goal.returns
returns c =
    rw (c.put-3.ensures, c.put_number.ensures.text, c.put-2.ensures, c.put_cell.ensures.text, c.put.ensures)
    (child_spelled c.args.text.now c.args.cell c.args.child)
