use Rattle.hx_text.proofs.Spelled.{title_1_spelled, title_2_spelled}
use Rattle.hx_text.proofs.spelling.put_title.Goals as goal

pub returns-in-One-clause-text : goal.returns-in-One-clause-text
returns-in-One-clause-text c = rw (c.put.ensures, c.in-One.is) (title_1_spelled c.args.text.now)

pub returns-in-Two-clause-text : goal.returns-in-Two-clause-text
returns-in-Two-clause-text c = rw (c.put-in-Two.ensures, c.in-Two.is) (title_2_spelled c.args.text.now)
