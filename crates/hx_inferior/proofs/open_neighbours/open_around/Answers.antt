use Rattle.std.proofs.Common.{◌∙◌, refl}
use Rattle.hx_inferior.proofs.OpenLaws.{parts-are_open}
use Rattle.hx_inferior.proofs.open_neighbours.open_around.Goals as goal

pub returns : goal.returns
returns c = parts-are_open c.args.position.now c.args.player c.args.cell c.neighbour_set-touched.result c.of_cells-cells.result
    c.with_if-with_first.result _ _ _ (record {
      extent = c.size-size.ensures.valid.0;
      on_board = c.requires;
      is_touched = rw c.size-size.ensures.value at c.neighbour_set-touched.ensures;
      is_first = c.is_along_first.ensures;
      is_last = rw c.size-size.ensures.value at c.is_along_last.ensures;
      is_cells = λ n. c.of_cells-cells.ensures n ∙ rw (c.minus-unheld.ensures.members n, c.stones.ensures.value, c.other.ensures) refl;
      is_with_first = c.with_if-with_first.ensures;
      is_all = c.with_if.ensures;
    })
