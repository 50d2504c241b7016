use Rattle.hx_text.proofs.Spelled.{end_spelled}
use Rattle.hx_text.proofs.spelling.put_end.Goals as goal

pub returns : goal.returns
returns c =
    rw (c.put-3.ensures, c.put_colour.ensures.text, c.put-2.ensures, c.put_number.ensures.text, c.put.ensures)
    (end_spelled c.args.text.now c.args.nodes c.args.winner)
