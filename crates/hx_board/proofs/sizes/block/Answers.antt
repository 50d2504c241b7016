use Rattle.hx_board.proofs.Columns.{has-block}
use Rattle.hx_board.proofs.sizes.block.Goals as goal

pub returns : goal.returns
returns c =
    rw c.meet.ensures.set
    (has-block _ _ c.args.rows c.args.cols c.requires.rows c.range-first_rows.ensures c.first_columns.ensures)
