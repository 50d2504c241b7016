use Rattle.hx_board.proofs.CellLaws.{on_board-by_tests}
use Rattle.hx_board.proofs.sizes.Size.all.Goals as goal

pub returns-clause-cells : goal.returns-clause-cells
returns-clause-cells c = λ n. rw (← c.self.view_is) (on_board-by_tests _ _ n (c.block.ensures n))
