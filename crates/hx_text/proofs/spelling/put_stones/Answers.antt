use Rattle.hx_text.proofs.Spelled.{stones_spelled}
use Rattle.hx_text.proofs.spelling.put_stones.Goals as goal

pub returns-clause-text : goal.returns-clause-text
returns-clause-text c =
    rw (c.put-2.ensures, c.put_mask.ensures.text, c.put.ensures, c.put_colour.ensures.text)
    (stones_spelled c.args.text.now c.args.colour c.args.stones)
