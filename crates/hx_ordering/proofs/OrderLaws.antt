-- The empty cells, listed in cell order, are all of them in any other order too.
use Rattle.std.proofs.Common.{◌≡◌, ℕ, true, List, ◌↔◌}
use Rattle.std.specs.List.Sorted.{IsPermutation}
use Rattle.std.proofs.lemmas.List.Elements.{All-contains}
use Rattle.std.proofs.lemmas.List.Sorted.{Contains-permutation, IsPermutation-sym}
use Rattle.hx_board.specs.Sets.{has}
use Rattle.hx_board.specs.Positions.{Board, IsEmpty}
use Rattle.hx_cells.specs.CellsLeft.{AreCells, IsCellOf}
use Rattle.hx_ordering.specs.Orders.{AreEmptyCells}

pub cells-reordered : (board : Board) (empties : ℕ) (sorted cells : List ℕ)
    → ((cell : ℕ) → (has empties cell ≡ true) ↔ IsEmpty board cell)
    → AreCells board.size empties sorted → IsPermutation sorted cells → AreEmptyCells board cells
cells-reordered board empties sorted cells is listed moved = record {
  each = λ cell. (
    (λ at.
        let among = Contains-permutation cells sorted cell (IsPermutation-sym sorted cells moved) at in
        (is cell).0 (All-contains (IsCellOf board.size empties) sorted cell listed.each among).member),
    (λ empty.
        let is_cell : IsCellOf board.size empties cell = record { on_board = empty.on_board; member = (is cell).1 empty } in
        Contains-permutation sorted cells cell moved (listed.all cell is_cell)),
  );
  in_cell_order = sorted;
  rising = listed.rising;
  reordered = moved;
}
