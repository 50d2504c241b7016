use Rattle.hx_text.proofs.Spelled.{under_pair_spelled}
use Rattle.hx_text.proofs.spelling.put_under_pair.Goals as goal

pub returns : goal.returns
returns c =
    rw (
      c.put-4.ensures,
      c.put_cell-3.ensures.text,
      c.put-3.ensures,
      c.put_cell-2.ensures.text,
      c.put-2.ensures,
      c.put_cell.ensures.text,
      c.put.ensures,
    )
    (under_pair_spelled c.args.text.now c.args.cell c.args.better c.args.partner)
