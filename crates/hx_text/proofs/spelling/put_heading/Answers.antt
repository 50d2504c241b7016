use Rattle.hx_text.proofs.Spelled.{heading_spelled}
use Rattle.hx_text.proofs.spelling.put_heading.Goals as goal

pub returns : goal.returns
returns c = rw (c.put_size.ensures.text, c.put_title.ensures.text)
    (heading_spelled c.args.text.now (record { version = c.args.version; size = c.args.size }))
