use Rattle.std.proofs.Common.{subst}
use Rattle.hx_board.specs.Positions.{Board}
use Rattle.hx_ordering.specs.Orders.{AreEmptyCells}
use Rattle.hx_ordering.proofs.OrderLaws.{cells-reordered}
use Rattle.hx_ordering.proofs.orders.in_order.Goals as goal

pub returns : goal.returns
returns c =
    let P : Board → Type 0 = λ board. AreEmptyCells board c.sort_by_key.new.self.items in
    subst P c.position-position.ensures
    (cells-reordered _ _ c.in_ok-found.found.items _ c.empties.ensures
    (rw c.size-size.ensures.value at c.in_ok-found.ensures) c.sort_by_key.ensures.permutation)
