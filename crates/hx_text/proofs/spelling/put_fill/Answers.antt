use Rattle.hx_text.proofs.Spelled.{other_spelled, dead_spelled}
use Rattle.hx_text.proofs.spelling.put_fill.Goals as goal

pub returns-in-Other : goal.returns-in-Other
returns-in-Other c = rw (c.put_filled.ensures, c.in-Other.is, other_spelled)

pub returns-in-Dead : goal.returns-in-Dead
returns-in-Dead c = rw (c.put_filled-in-Dead.ensures, c.in-Dead.is, dead_spelled)
