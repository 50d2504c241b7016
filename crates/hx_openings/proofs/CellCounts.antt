-- How many cells are empty: on the board without a stone all, so many in each row as it has columns; and after an
-- opening one less.
use Rattle.std.proofs.Common.{◌≡◌, ℕ, zero, suc, ◌+◌, ◌-◌, ◌*◌, ◌<◌, ◌≤◌, Bool, true, ltb, refl, sym, ap, ◌∙◌}
use Rattle.std.proofs.Common.{arith, ◌↔◌}
use Rattle.std.proofs.lemmas.Bool.{ltb-true, lt-ltb, false_from_ne_true}
use Rattle.hx_board.specs.declared.colours.Colour.TheVariants.{Black}
use Rattle.hx_board.specs.Cells.{Extent, IsExtent, OnBoard}
use Rattle.hx_board.specs.Positions.{Board}
use Rattle.hx_board.specs.Counts.{is_empty, empty_below, empty_count, IsSmall}
use Rattle.hx_board.proofs.EmptyCells.{is_empty-is, empty_count-put}
use Rattle.hx_board.proofs.SetLaws.{same_test}
use Rattle.hx_board.proofs.Tallies.{share, tally, tally-same, tally-none}
use Rattle.hx_openings.specs.Openings.{empty_board, opening, empties_left, OpeningsAreSmall}
use Rattle.hx_openings.proofs.OpeningLaws.{all_empty, empty_is_board}

-- ---- counts of numbers

-- of so many numbers more
tally-add : (test : ℕ → Bool) (bound more : ℕ) → tally test (bound + more) ≡ tally (λ n. test (bound + n)) more + tally test bound
tally-add test bound zero = let same : bound + 0 ≡ bound = omega arith in rw same (omega arith)
tally-add test bound (suc more) =
    let next : bound + suc more ≡ suc (bound + more) = omega arith in
    let rest = tally-add test bound more in
    rw next (omega (arith, rest))

tally-all : (test : ℕ → Bool) (bound : ℕ) → ((n : ℕ) → n < bound → test n ≡ true) → tally test bound ≡ bound
tally-all test zero all = refl
tally-all test (suc bound) all =
    let last = ap share (all bound (omega arith)) in
    let rest = tally-all test bound (λ n h. all n (omega arith)) in omega arith

-- of those below a limit
tally-limit : (limit more : ℕ) → tally (λ n. ltb n limit) (limit + more) ≡ limit
tally-limit limit more =
    let below = tally-all (λ n. ltb n limit) limit (λ n h. lt-ltb n limit h) in
    let above = tally-none (λ n. ltb (limit + n) limit) more
    (λ n h. false_from_ne_true (ltb (limit + n) limit) (λ k. let less = ltb-true (limit + n) limit k in absurd (omega (arith, less)))) in
    omega (arith, tally-add (λ n. ltb n limit) limit more, below, above)

-- ---- the cells of a board

empty_below-tally : (bound : ℕ) (board : Board) → empty_below bound board ≡ tally (is_empty board) bound
unfolding empty_below
empty_below-tally zero board = refl
empty_below-tally (suc bound) board = let rest = empty_below-tally bound board in omega arith

module _ (size : Extent) (extent : IsExtent size.rows size.cols) where
  -- whether a cell of the empty board is empty
  abbrev is_cell : ℕ → Bool
  is_cell cell = is_empty (empty_board size) cell

  cell_is : (cell : ℕ) → OnBoard size cell → is_cell cell ≡ true
  cell_is cell on = (is_empty-is (empty_board size) cell).1 (all_empty size extent cell on)

  cell_on : (cell : ℕ) → is_cell cell ≡ true → OnBoard size cell
  cell_on cell h = ((is_empty-is (empty_board size) cell).0 h).on_board

  -- a place of a row that the board has is a cell where it is below the number of columns
  in_row : (row : ℕ) → row < size.rows → (col : ℕ) → col < 11 → is_cell (11 * row + col) ≡ ltb col size.cols
  in_row row less col small = same_test _ _
      (λ h. let on = cell_on (11 * row + col) h in let here = on.col in lt-ltb col size.cols (omega (arith, here, small)))
      (λ h. let here = ltb-true col size.cols h in
      cell_is (11 * row + col) (record { row = omega (arith, less, small); col = omega (arith, here, small) }))

  row-tally : (row : ℕ) → row < size.rows → tally (λ n. is_cell (11 * row + n)) 11 ≡ size.cols
  row-tally row less =
      let wide : size.cols + (11 - size.cols) ≡ 11 = omega (arith, extent.3) in
      tally-same (λ n. is_cell (11 * row + n)) (λ n. ltb n size.cols) 11 (in_row row less)
      ∙ sym (ap (tally (λ n. ltb n size.cols)) wide) ∙ tally-limit size.cols (11 - size.cols)

  rows-tally : (rows : ℕ) → rows ≤ size.rows → tally is_cell (11 * rows) ≡ rows * size.cols
  rows-tally zero le = omega arith
  rows-tally (suc rows) le =
      let next : 11 * suc rows ≡ 11 * rows + 11 = omega arith in
      let here = row-tally rows (omega (arith, le)) in
      let above = rows-tally rows (omega (arith, le)) in
      let more : suc rows * size.cols ≡ rows * size.cols + size.cols = omega arith in
      ap (tally is_cell) next ∙ omega (arith, tally-add is_cell (11 * rows) 11, here, above, more)

  below-tally : (more : ℕ) → tally is_cell (11 * size.rows + more) ≡ size.rows * size.cols
  below-tally more =
      let none = tally-none (λ n. is_cell (11 * size.rows + n)) more
      (λ n h. false_from_ne_true _ (λ k. let on = cell_on (11 * size.rows + n) k in let row = on.row in absurd (omega (arith, row)))) in
      omega (arith, tally-add is_cell (11 * size.rows) more, none, rows-tally size.rows (omega arith))

  pub empty_board-count : empty_count (empty_board size) ≡ size.rows * size.cols
  unfolding empty_count
  empty_board-count =
      let high : 11 * size.rows + (121 - 11 * size.rows) ≡ 121 = omega (arith, extent.1) in
      empty_below-tally 121 (empty_board size) ∙ sym (ap (tally is_cell) high) ∙ below-tally (121 - 11 * size.rows)

  pub opening-count : (cell : ℕ) → OnBoard size cell → empty_count (opening size cell) ≡ empties_left size
  opening-count cell on =
      let less = empty_count-put (empty_board size) Black cell (empty_is_board size extent) (all_empty size extent cell on) in
      omega (arith, less, empty_board-count)

  -- whether an opening is small goes by the size and the budget alone
  pub small_by_size : (budget cell : ℕ) → OnBoard size cell → IsSmall (opening size cell) budget ↔ OpeningsAreSmall size budget
  small_by_size budget cell on =
      let same = opening-count cell on in (
        (λ small. record { few = rw same at small.few; within = rw same at small.within }),
        (λ small. record { few = rw same small.few; within = rw same small.within }),
      )
