use Rattle.std.proofs.Common.{◌∙◌}
use Rattle.hx_board.proofs.CellLaws.{on_board-small}
use Rattle.hx_board.proofs.CountLaws.{count-small}
use Rattle.hx_board.proofs.EmptyCells.{empties-count}
use Rattle.hx_board.proofs.positions.Position.empty_count.Goals as goal

pub returns-clause-value : goal.returns-clause-value
returns-clause-value c = c.count.ensures ∙ empties-count _ _ c.size-size.ensures.valid c.empties.ensures

pub returns-clause-small : goal.returns-clause-small
returns-clause-small c =
    rw c.count.ensures (count-small _ (λ n h. on_board-small _ n c.size-size.ensures.valid.0 ((c.empties.ensures n).0 h).on_board))
