use Rattle.hx_text.proofs.Spelled.{base_spelled}
use Rattle.hx_text.proofs.spelling.put_base.Goals as goal

pub returns : goal.returns
returns c =
    rw (c.put-3.ensures, c.put_vertex-2.ensures.text, c.put-2.ensures, c.put_vertex.ensures.text, c.put.ensures)
    (base_spelled c.args.text.now c.args.a c.args.b)
