use Rattle.std.proofs.Common.{◌≡◌, true, is_ok, refl, sym, ◌∙◌}
use Rattle.hx_ordering.proofs.orders.list.Goals as goal

pub loop-cell-preserved : goal.loop-cell-preserved
loop-cell-preserved c =
    let pushed : is_ok c.push.result ≡ true = sym c.map_err-in-loop-cell.ensures.variant ∙ rw c.in_ok-map_err.was refl in
    rw (c.push.ensures.items, pushed, c.loop-cell.invariant) refl

pub returns : goal.returns
returns c =
    let yields = rw c.into_iter-cell-iterator.ensures.into_iter_gives at c.loop-cell.yielded_by in
    rw c.loop-cell.invariant
    (c.each_cell-cell-items.ensures.each c.loop-cell.yielded
    (c.next.new.self, (c.loop-cell.cell-iterator, yields, c.in-None.ensures.steps)))
