use Rattle.hx_text.proofs.Spelled.{size_spelled}
use Rattle.hx_text.proofs.spelling.put_size.Goals as goal

pub returns-clause-text : goal.returns-clause-text
returns-clause-text c =
    rw (
      c.put-3.ensures,
      c.put_small-2.ensures.text,
      c.put-2.ensures,
      c.put_small.ensures.text,
      c.put.ensures,
      c.rows.ensures.value,
      c.cols.ensures.value,
    ) (size_spelled c.args.text.now c.args.size)
