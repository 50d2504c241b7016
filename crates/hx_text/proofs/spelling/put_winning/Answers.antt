use Rattle.hx_text.proofs.Spelled.{winning_spelled}
use Rattle.hx_text.proofs.spelling.put_winning.Goals as goal

pub returns-clause-text : goal.returns-clause-text
returns-clause-text c =
    rw (c.put_number.ensures.text, c.put-2.ensures, c.put_cell.ensures.text, c.put.ensures)
    (winning_spelled c.args.text.now c.args.cell c.args.child)
