use Rattle.hx_text.specs.TreeTexts.{head_of}
use Rattle.hx_text.proofs.Spelled.{head_spelled}
use Rattle.hx_text.proofs.spelling.put_head.Goals as goal

pub returns : goal.returns
returns c =
    rw (c.put-2.ensures, c.put_opening.ensures.text, c.put_colours.ensures.text, c.put_masks.ensures.text, c.put.ensures)
    (head_spelled c.args.text.now (head_of c.args.node.now))
