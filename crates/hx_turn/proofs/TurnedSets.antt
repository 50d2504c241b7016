-- A set that is reversed, and then moved down until the last cell's place has come to the first cell's, is turned.
use Rattle.std.proofs.Common.{◌≡◌, ℕ, ◌+◌, ◌-◌, ◌*◌, ◌/◌, ◌^◌, ◌<◌, ◌≤◌, true, ◌&&◌, sym, ap, ◌∙◌, arith, ◌↔◌}
use Rattle.std.proofs.lemmas.Bool.{and_from}
use Rattle.hx_board.specs.Sets.{has}
use Rattle.hx_board.specs.Cells.{Extent, IsExtent, OnBoard}
use Rattle.hx_board.proofs.SetLaws.{has-earlier, first_of_both, second_of_both}
use Rattle.hx_turn.specs.Turned.{turned_cell}
use Rattle.hx_turn.proofs.TurnedCells.{turned-is}

module _ (size : Extent) (extent : IsExtent size.rows size.cols) (cells reversed last : ℕ)
    (is_last : last ≡ 11 * (size.rows - 1) + (size.cols - 1))
    (is_reversed : (n : ℕ) → n < 128 → has reversed n ≡ has cells (127 - n)) where
  has-moved : (cell : ℕ) → OnBoard size cell → has (reversed / 2 ^ (127 - last)) cell ≡ has cells (turned_cell size cell)
  has-moved cell here =
      let place : turned_cell size cell + cell ≡ 11 * (size.rows - 1) + (size.cols - 1) = turned-is size extent cell here in
      let rows : size.rows ≤ 11 = extent.1 in
      let cols : size.cols ≤ 11 = extent.3 in
      let within : cell + (127 - last) < 128 = omega arith in
      let there : 127 - (cell + (127 - last)) ≡ turned_cell size cell = omega arith in
      has-earlier reversed (127 - last) cell ∙ is_reversed (cell + (127 - last)) within ∙ ap (has cells) there

  -- of the moved set only what is on the board counts
  pub has-turned : (moved all result : ℕ) → moved ≡ reversed / 2 ^ (127 - last)
      → ((cell : ℕ) → (has all cell ≡ true) ↔ OnBoard size cell) → ((n : ℕ) → has result n ≡ (has moved n && has all n))
      → (cell : ℕ) → (has result cell ≡ true) ↔ (OnBoard size cell × (has cells (turned_cell size cell) ≡ true))
  has-turned moved all result is_moved is_all is_both cell = (
    (λ h.
        let both : (has moved cell && has all cell) ≡ true = sym (is_both cell) ∙ h in
        let here : OnBoard size cell = (is_all cell).0 (second_of_both (has moved cell) (has all cell) both) in
        (here, sym (at_turned here) ∙ first_of_both (has moved cell) (has all cell) both)),
    (λ w. is_both cell ∙ and_from (has moved cell) (has all cell) (at_turned w.0 ∙ w.1) ((is_all cell).1 w.0)),
  )
    where
      at_turned : OnBoard size cell → has moved cell ≡ has cells (turned_cell size cell)
      at_turned here = ap (λ (s : ℕ). has s cell) is_moved ∙ has-moved cell here
