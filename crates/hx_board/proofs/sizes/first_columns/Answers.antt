use Rattle.hx_board.proofs.Columns.{has-columns}
use Rattle.hx_board.proofs.sizes.first_columns.Goals as goal

pub returns : goal.returns
returns c = rw c.of.ensures (has-columns c.args.cols c.requires)
