use Rattle.hx_text.proofs.Spelled.{two_cells_spelled}
use Rattle.hx_text.proofs.spelling.put_two_cells.Goals as goal

pub returns : goal.returns
returns c =
    rw (c.put-3.ensures, c.put_cell-2.ensures.text, c.put-2.ensures, c.put_cell.ensures.text, c.put.ensures)
    (two_cells_spelled c.args.text.now c.args.before.now c.args.between.now c.args.a c.args.b)
