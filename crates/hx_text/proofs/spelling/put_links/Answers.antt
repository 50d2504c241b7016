use Rattle.hx_text.proofs.Spelled.{links_spelled}
use Rattle.hx_text.proofs.spelling.put_links.Goals as goal

pub returns-clause-text : goal.returns-clause-text
returns-clause-text c = rw (c.put_number.ensures.text, c.put.ensures) (links_spelled c.args.text.now c.args.steps)
