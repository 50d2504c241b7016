use Rattle.std.proofs.Common.{◌++◌, ap}
use Rattle.hx_text.proofs.Spelled.{pair_spelled}
use Rattle.hx_text.proofs.spelling.put_pair.Goals as goal

pub returns : goal.returns
returns c = rw c.put_two_cells.ensures (ap (λ line. c.args.text.now ++ line) (pair_spelled c.args.a c.args.b))
