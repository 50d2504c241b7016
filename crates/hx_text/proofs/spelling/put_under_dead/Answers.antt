use Rattle.std.proofs.Common.{◌++◌, ap}
use Rattle.hx_text.proofs.Spelled.{under_dead_spelled}
use Rattle.hx_text.proofs.spelling.put_under_dead.Goals as goal

pub returns : goal.returns
returns c = rw c.put_two_cells.ensures (ap (λ line. c.args.text.now ++ line) (under_dead_spelled c.args.cell c.args.better))
