-- The list of a cell's neighbours has each cell of the board that touches it, and no other. Each of its six parts
-- stands for one way of touching.
use Rattle.std.proofs.Common.{◌≡◌, ℕ, zero, suc, ◌+◌, ◌-◌, ◌*◌, ◌/◌, ◌%◌, ◌<◌, ◌≤◌, Bool, true, false, ◌&&◌}
use Rattle.std.proofs.Common.{List, [], ◌∷◌, ◌++◌, get_or, refl, sym, arith, ◌↔◌, ltb, ⊎_elim}
use Rattle.std.specs.Prelude.{Contains}
use Rattle.std.proofs.lemmas.Bool.{false≢true, ltb-true, lt-ltb, and_from}
use Rattle.std.proofs.lemmas.List.Elements.{Contains-append_left, Contains-append_right, Contains-append_cases}
use Rattle.hx_board.specs.Cells.{Extent, IsExtent, OnBoard, CellsTouch, Left, Right, Above, Below, Above_right, Below_left}
use Rattle.hx_board.specs.Cells.{row_of, col_of, index_of, kept, neighbours_of}
use Rattle.hx_board.proofs.SetLaws.{first_of_both, second_of_both}

kept-has : (is_there : Bool) (cell other : ℕ) → Contains (kept is_there cell) other → (is_there ≡ true) × (other ≡ cell)
kept-has true cell other h = (refl, first h.0 h.1 h.2)
  where
    first : (k : ℕ) → k < 1 → get_or (cell ∷ []) k other ≡ other → other ≡ cell
    first zero less e = sym e
    first (suc k) less e = absurd (omega arith)
kept-has false cell other h = absurd (omega (arith, h.1))

has-kept : (is_there : Bool) (cell other : ℕ) → is_there ≡ true → other ≡ cell → Contains (kept is_there cell) other
has-kept true cell other h e = (0, omega arith, sym e)
has-kept false cell other h e = absurd (false≢true h)

in_either : {P : Type 0} (cells more : List ℕ) (other : ℕ) → (Contains cells other → P) → (Contains more other → P)
    → Contains (cells ++ more) other → P
in_either cells more other first second h = ⊎_elim first second (Contains-append_cases cells more other h)

module _ (size : Extent) (cell : ℕ) (extent : IsExtent size.rows size.cols) (here : OnBoard size cell) where
  abbrev IsNeighbour : ℕ → Type 0
  IsNeighbour other = OnBoard size other × CellsTouch cell other

  abbrev left : List ℕ
  left = kept (ltb 0 (col_of cell)) (index_of (row_of cell) (col_of cell - 1))

  abbrev right : List ℕ
  right = kept (ltb (col_of cell + 1) size.cols) (index_of (row_of cell) (col_of cell + 1))

  abbrev above : List ℕ
  above = kept (ltb 0 (row_of cell)) (index_of (row_of cell - 1) (col_of cell))

  abbrev below : List ℕ
  below = kept (ltb (row_of cell + 1) size.rows) (index_of (row_of cell + 1) (col_of cell))

  abbrev above_right : List ℕ
  above_right = kept (ltb 0 (row_of cell) && ltb (col_of cell + 1) size.cols) (index_of (row_of cell - 1) (col_of cell + 1))

  abbrev below_left : List ℕ
  below_left = kept (ltb (row_of cell + 1) size.rows && ltb 0 (col_of cell)) (index_of (row_of cell + 1) (col_of cell - 1))

  from_left : (other : ℕ) → Contains left other → IsNeighbour other
  from_left other h =
      let w = kept-has (ltb 0 (cell % 11)) (11 * (cell / 11) + (cell % 11 - 1)) other h in
      let col : 0 < cell % 11 = ltb-true 0 (cell % 11) w.0 in
      let place : other ≡ 11 * (cell / 11) + (cell % 11 - 1) = w.1 in
      let here_row : cell / 11 < size.rows = here.row in
      let here_col : cell % 11 < size.cols = here.col in
      (record { row = omega arith; col = omega arith }, Left (omega arith) (omega arith))

  from_right : (other : ℕ) → Contains right other → IsNeighbour other
  from_right other h =
      let w = kept-has (ltb (cell % 11 + 1) size.cols) (11 * (cell / 11) + (cell % 11 + 1)) other h in
      let col : cell % 11 + 1 < size.cols = ltb-true (cell % 11 + 1) size.cols w.0 in
      let place : other ≡ 11 * (cell / 11) + (cell % 11 + 1) = w.1 in
      let here_row : cell / 11 < size.rows = here.row in
      let bound : size.cols ≤ 11 = extent.3 in
      (record { row = omega arith; col = omega arith }, Right (omega arith) (omega arith))

  from_above : (other : ℕ) → Contains above other → IsNeighbour other
  from_above other h =
      let w = kept-has (ltb 0 (cell / 11)) (11 * (cell / 11 - 1) + cell % 11) other h in
      let row : 0 < cell / 11 = ltb-true 0 (cell / 11) w.0 in
      let place : other ≡ 11 * (cell / 11 - 1) + cell % 11 = w.1 in
      let here_row : cell / 11 < size.rows = here.row in
      let here_col : cell % 11 < size.cols = here.col in
      (record { row = omega arith; col = omega arith }, Above (omega arith) (omega arith))

  from_below : (other : ℕ) → Contains below other → IsNeighbour other
  from_below other h =
      let w = kept-has (ltb (cell / 11 + 1) size.rows) (11 * (cell / 11 + 1) + cell % 11) other h in
      let row : cell / 11 + 1 < size.rows = ltb-true (cell / 11 + 1) size.rows w.0 in
      let place : other ≡ 11 * (cell / 11 + 1) + cell % 11 = w.1 in
      let here_col : cell % 11 < size.cols = here.col in
      (record { row = omega arith; col = omega arith }, Below (omega arith) (omega arith))

  from_above_right : (other : ℕ) → Contains above_right other → IsNeighbour other
  from_above_right other h =
      let w = kept-has (ltb 0 (cell / 11) && ltb (cell % 11 + 1) size.cols) (11 * (cell / 11 - 1) + (cell % 11 + 1)) other h in
      let row : 0 < cell / 11 = ltb-true 0 (cell / 11) (first_of_both _ _ w.0) in
      let col : cell % 11 + 1 < size.cols = ltb-true (cell % 11 + 1) size.cols (second_of_both (ltb 0 (cell / 11)) _ w.0) in
      let place : other ≡ 11 * (cell / 11 - 1) + (cell % 11 + 1) = w.1 in
      let here_row : cell / 11 < size.rows = here.row in
      let bound : size.cols ≤ 11 = extent.3 in
      (record { row = omega arith; col = omega arith }, Above_right (omega arith) (omega arith))

  from_below_left : (other : ℕ) → Contains below_left other → IsNeighbour other
  from_below_left other h =
      let w = kept-has (ltb (cell / 11 + 1) size.rows && ltb 0 (cell % 11)) (11 * (cell / 11 + 1) + (cell % 11 - 1)) other h in
      let row : cell / 11 + 1 < size.rows = ltb-true (cell / 11 + 1) size.rows (first_of_both _ _ w.0) in
      let col : 0 < cell % 11 = ltb-true 0 (cell % 11) (second_of_both (ltb (cell / 11 + 1) size.rows) _ w.0) in
      let place : other ≡ 11 * (cell / 11 + 1) + (cell % 11 - 1) = w.1 in
      let here_col : cell % 11 < size.cols = here.col in
      (record { row = omega arith; col = omega arith }, Below_left (omega arith) (omega arith))

  -- the list's beginnings
  abbrev two : List ℕ
  two = left ++ right

  abbrev three : List ℕ
  three = two ++ above

  abbrev four : List ℕ
  four = three ++ below

  abbrev five : List ℕ
  five = four ++ above_right

  listed : (other : ℕ) → Contains (neighbours_of size cell) other → IsNeighbour other
  listed other =
      in_either five below_left other
      (in_either four above_right other
      (in_either three below other
      (in_either two above other
      (in_either left right other (from_left other) (from_right other))
      (from_above other))
      (from_below other))
      (from_above_right other))
      (from_below_left other)

  among_five : (other : ℕ) → Contains five other → Contains (neighbours_of size cell) other
  among_five = Contains-append_left five below_left

  among_four : (other : ℕ) → Contains four other → Contains (neighbours_of size cell) other
  among_four other h = among_five other (Contains-append_left four above_right other h)

  among_three : (other : ℕ) → Contains three other → Contains (neighbours_of size cell) other
  among_three other h = among_four other (Contains-append_left three below other h)

  among_two : (other : ℕ) → Contains two other → Contains (neighbours_of size cell) other
  among_two other h = among_three other (Contains-append_left two above other h)

  to_list : (other : ℕ) → OnBoard size other → CellsTouch cell other → Contains (neighbours_of size cell) other
  to_list other on (Left row col) =
      among_two other (Contains-append_left left right other (has-kept _ _ other (lt-ltb _ _ (omega arith)) (omega arith)))
  to_list other on (Right row col) =
      let other_col : other % 11 < size.cols = on.col in
      among_two other (Contains-append_right left right other (has-kept _ _ other (lt-ltb _ _ (omega arith)) (omega arith)))
  to_list other on (Above row col) =
      among_three other (Contains-append_right two above other (has-kept _ _ other (lt-ltb _ _ (omega arith)) (omega arith)))
  to_list other on (Below row col) =
      let other_row : other / 11 < size.rows = on.row in
      among_four other (Contains-append_right three below other (has-kept _ _ other (lt-ltb _ _ (omega arith)) (omega arith)))
  to_list other on (Above_right row col) =
      let other_col : other % 11 < size.cols = on.col in
      among_five other
      (Contains-append_right four above_right other
      (has-kept _ _ other (and_from (ltb 0 (cell / 11)) _ (lt-ltb _ _ (omega arith)) (lt-ltb _ _ (omega arith))) (omega arith)))
  to_list other on (Below_left row col) =
      let other_row : other / 11 < size.rows = on.row in
      Contains-append_right five below_left other
      (has-kept _ _ other (and_from (ltb (cell / 11 + 1) size.rows) _ (lt-ltb _ _ (omega arith)) (lt-ltb _ _ (omega arith))) (omega arith))

  pub neighbours-touch : (other : ℕ) → Contains (neighbours_of size cell) other ↔ (OnBoard size other × CellsTouch cell other)
  neighbours-touch other = (listed other, (λ w. to_list other w.0 w.1))
