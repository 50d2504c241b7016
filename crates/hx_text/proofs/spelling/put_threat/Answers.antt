use Rattle.hx_text.proofs.Spelled.{threat_spelled}
use Rattle.hx_text.proofs.spelling.put_threat.Goals as goal

pub returns : goal.returns
returns c = rw (c.put-2.ensures, c.put_number.ensures.text, c.put.ensures) (threat_spelled c.args.text.now c.args.place)
