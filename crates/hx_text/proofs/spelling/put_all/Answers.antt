use Rattle.hx_text.proofs.Spelled.{all_spelled}
use Rattle.hx_text.proofs.spelling.put_all.Goals as goal

pub returns-clause-text : goal.returns-clause-text
returns-clause-text c =
    rw (
      c.put_number-3.ensures.text,
      c.put-3.ensures,
      c.put_number-2.ensures.text,
      c.put-2.ensures,
      c.put_number.ensures.text,
      c.put.ensures,
    ) (all_spelled c.args.text.now c.args.steps c.args.threats c.args.lines)
