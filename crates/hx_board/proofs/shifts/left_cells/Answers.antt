use Rattle.hx_board.proofs.Lines.{left-is}
use Rattle.hx_board.proofs.shifts.left_cells.Goals as goal

pub returns : goal.returns
returns c =
    left-is c.args.size c.rows.ensures.valid _ (λ n. rw (← c.rows.ensures.value, ← c.cols.ensures.value) (c.block.ensures n))
