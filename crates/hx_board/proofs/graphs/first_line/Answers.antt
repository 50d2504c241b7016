use Rattle.hx_board.proofs.Lines.{top-is, leftmost-is}
use Rattle.hx_board.proofs.graphs.first_line.Goals as goal

pub returns-in-Black : goal.returns-in-Black
returns-in-Black c = rw (c.minus.ensures.set, c.in-Black.is)
    (top-is c.args.size c.all-all.ensures.valid _ c.all-all.ensures.cells _ c.later.ensures)

pub returns-in-White : goal.returns-in-White
returns-in-White c =
    rw (c.minus-in-White.ensures.set, c.in-White.is)
    (leftmost-is c.args.size c.all-all.ensures.valid _ c.all-all.ensures.cells _ c.left_cells.ensures _ c.later-in-White.ensures)
