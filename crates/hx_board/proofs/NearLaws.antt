-- A cell with the cells that touch it, and the table of these. In the table a row follows from the one above it, since
-- two cells touch exactly where the two below them touch.
use Rattle.std.proofs.Common.{◌≡◌, ◌≢◌, ℕ, ◌+◌, ◌-◌, ◌/◌, ◌%◌, ◌<◌, ◌≤◌, true, ◌&&◌, List, length, slice_index, replicate}
use Rattle.std.proofs.Common.{refl, sym, ◌∙◌, subst, arith, ◌⊎◌, inl, inr, ⊎_elim, ◌↔◌, leb}
use Rattle.std.proofs.Math.ListN.{set}
use Rattle.std.proofs.lemmas.Bool.{leb-true, le-leb, and_from}
use Rattle.std.proofs.lemmas.Bool.Decides.{eqb_tells}
use Rattle.std.proofs.lemmas.List.{get_or-set_same, get_or-set_other, length-set}
use Rattle.hx_board.specs.Sets.{has, insert, union, intersection}
use Rattle.hx_board.specs.Cells.{Extent, IsExtent, OnBoard, CellsTouch, Left, Right, Above, Below, Above_right, Below_left}
use Rattle.hx_board.specs.Floods.{AreNear, TouchesCellOf}
use Rattle.hx_board.proofs.SetLaws.{has-union_left, has-union_right, has-union_cases, has-insert_same}
use Rattle.hx_board.proofs.SetLaws.{has-intersection_left, has-intersection_right, has-intersection_both, first_of_both, second_of_both}
use Rattle.hx_board.proofs.CellLaws.{on_board-small}
use Rattle.hx_board.proofs.FloodLaws.{has-single}

-- what touches a set of one cell
pub touches-one : (size : Extent) (cell around : ℕ) → OnBoard size cell
    → ((n : ℕ) → (has around n ≡ true) ↔ TouchesCellOf size (insert 0 cell) n)
    → (n : ℕ) → (has around n ≡ true) ↔ (OnBoard size n × CellsTouch cell n)
touches-one size cell around on is_around n = (
  (λ h.
      let t : TouchesCellOf size (insert 0 cell) n = (is_around n).0 h in
      (t.on_board, let P : ℕ → Type 0 = λ x. CellsTouch x n in subst P (has-single cell t.by t.by_member) t.touch)),
  (λ w. (is_around n).1 (record { on_board = w.0; by = cell; by_on_board = on; by_member = has-insert_same 0 cell; touch = w.1 })),
)

pub near-is : (size : Extent) (cell around : ℕ) → ((n : ℕ) → (has around n ≡ true) ↔ TouchesCellOf size (insert 0 cell) n)
    → OnBoard size cell → (n : ℕ) → (has (union (insert 0 cell) around) n ≡ true) ↔ (OnBoard size n × ((n ≡ cell) ⊎ CellsTouch cell n))
near-is size cell around is_around on n = (
  (λ h. ⊎_elim
      (λ w. let e : n ≡ cell = has-single cell n w in (let P : ℕ → Type 0 = λ x. OnBoard size x in subst P (sym e) on, inl e))
      (λ w. let t = (touches-one size cell around on is_around n).0 w in (t.0, inr t.1))
      (has-union_cases (insert 0 cell) around n h)),
  (λ w. ⊎_elim
      (λ e. has-union_left (insert 0 cell) around n
      (let P : ℕ → Type 0 = λ x. has (insert 0 x) n ≡ true in subst P e (has-insert_same 0 n)))
      (λ t. has-union_right (insert 0 cell) around n ((touches-one size cell around on is_around n).1 (w.0, t)))
      w.1),
)

-- ---- the table

pub near_none : (size : Extent) (empty : ℕ) → empty ≡ 0 → AreNear size 0 (replicate 123 empty)
near_none size empty e = record {
  count = refl;
  cells = λ cell low. absurd (omega arith);
  first = e;
  last = e;
}

pub near_more : (size : Extent) (sets : List ℕ) (index near : ℕ) → index < 121 → AreNear size index sets
    → (OnBoard size index → (other : ℕ) → (has near other ≡ true) ↔ (OnBoard size other × ((other ≡ index) ⊎ CellsTouch index other)))
    → AreNear size (index + 1) (set sets index near)
near_more size sets index near small before is = record {
  count = length-set sets index near ∙ before.count;
  cells = λ cell low on other. ⊎_elim (λ t. here cell t.1 on other) (λ t. there cell low t.1 on other) (eqb_tells cell index);
  first = get_or-set_other sets index 121 near 0 (λ e. absurd (omega arith)) ∙ before.first;
  last = get_or-set_other sets index 122 near 0 (λ e. absurd (omega arith)) ∙ before.last;
}
  where
    within : index < length sets
    within = rw before.count (omega arith)

    here : (cell : ℕ) → cell ≡ index → OnBoard size cell → (other : ℕ)
        → (has (slice_index (set sets index near) cell) other ≡ true) ↔ (OnBoard size other × ((other ≡ cell) ⊎ CellsTouch cell other))
    here cell same on other =
        let P : ℕ → Type 0 = λ x. OnBoard size x
        → (has (slice_index (set sets index near) x) other ≡ true) ↔ (OnBoard size other × ((other ≡ x) ⊎ CellsTouch x other)) in
        subst P (sym same) (λ stands. rw (get_or-set_same sets index near 0 within) (is stands other)) on

    there : (cell : ℕ) → cell < index + 1 → cell ≢ index → OnBoard size cell → (other : ℕ)
        → (has (slice_index (set sets index near) cell) other ≡ true) ↔ (OnBoard size other × ((other ≡ cell) ⊎ CellsTouch cell other))
    there cell low apart on other = rw (get_or-set_other sets index cell near 0 apart) (before.cells cell (omega arith) on other)

-- ---- a row and the row below it

pub below-is : (size : Extent) (set all moved : ℕ) → IsExtent size.rows size.cols → ((n : ℕ) → (has all n ≡ true) ↔ OnBoard size n)
    → ((n : ℕ) → n < 128 → has moved n ≡ (leb 11 n && has set (n - 11)))
    → (n : ℕ) → (has (intersection moved all) n ≡ true) ↔ (OnBoard size n × (11 ≤ n) × (has set (n - 11) ≡ true))
below-is size set all moved extent is_all is n = (
  (λ h.
      let on : OnBoard size n = (is_all n).0 (has-intersection_right moved all n h) in
      let t : (leb 11 n && has set (n - 11)) ≡ true = sym (is n (less on)) ∙ has-intersection_left moved all n h in
      (on, leb-true 11 n (first_of_both (leb 11 n) _ t), second_of_both (leb 11 n) _ t)),
  (λ w. has-intersection_both moved all n (is n (less w.0) ∙ and_from _ _ (le-leb 11 n w.1) w.2) ((is_all n).1 w.0)),
)
  where
    less : OnBoard size n → n < 128
    less on = let small : n < 121 = on_board-small size n extent on in omega arith

touch_below : (a b : ℕ) → 11 ≤ a → 11 ≤ b → CellsTouch (a - 11) (b - 11) → CellsTouch a b
touch_below a b low high (Left row col) = Left (omega arith) (omega arith)
touch_below a b low high (Right row col) = Right (omega arith) (omega arith)
touch_below a b low high (Above row col) = Above (omega arith) (omega arith)
touch_below a b low high (Below row col) = Below (omega arith) (omega arith)
touch_below a b low high (Above_right row col) = Above_right (omega arith) (omega arith)
touch_below a b low high (Below_left row col) = Below_left (omega arith) (omega arith)

touch_above : (a b : ℕ) → 11 ≤ a → 11 ≤ b → CellsTouch a b → CellsTouch (a - 11) (b - 11)
touch_above a b low high (Left row col) = Left (omega arith) (omega arith)
touch_above a b low high (Right row col) = Right (omega arith) (omega arith)
touch_above a b low high (Above row col) = Above (omega arith) (omega arith)
touch_above a b low high (Below row col) = Below (omega arith) (omega arith)
touch_above a b low high (Above_right row col) = Above_right (omega arith) (omega arith)
touch_above a b low high (Below_left row col) = Below_left (omega arith) (omega arith)

touch_low : (a b : ℕ) → 22 ≤ a → CellsTouch a b → 11 ≤ b
touch_low a b high (Left row col) = omega arith
touch_low a b high (Right row col) = omega arith
touch_low a b high (Above row col) = omega arith
touch_low a b high (Below row col) = omega arith
touch_low a b high (Above_right row col) = omega arith
touch_low a b high (Below_left row col) = omega arith

on_board_above : (size : Extent) (n : ℕ) → 11 ≤ n → OnBoard size n → OnBoard size (n - 11)
on_board_above size n high on =
    let row : n / 11 < size.rows = on.row in
    let col : n % 11 < size.cols = on.col in
    record { row = omega arith; col = omega arith }

pub near_below : (size : Extent) (sets : List ℕ) (index above near : ℕ) → 22 ≤ index → index < 121
    → AreNear size index sets → above ≡ slice_index sets (index - 11)
    → ((n : ℕ) → (has near n ≡ true) ↔ (OnBoard size n × (11 ≤ n) × (has above (n - 11) ≡ true)))
    → AreNear size (index + 1) (set sets index near)
near_below size sets index above near high small before same is = near_more size sets index near small before row
  where
    row_above : OnBoard size index → (n : ℕ) → (has above n ≡ true) ↔ (OnBoard size n × ((n ≡ index - 11) ⊎ CellsTouch (index - 11) n))
    row_above on n = rw same (before.cells (index - 11) (omega arith) (on_board_above size index (omega arith) on) n)

    row : OnBoard size index → (n : ℕ) → (has near n ≡ true) ↔ (OnBoard size n × ((n ≡ index) ⊎ CellsTouch index n))
    row on n = (
      (λ h.
          let t : OnBoard size n × (11 ≤ n) × (has above (n - 11) ≡ true) = (is n).0 h in
          (t.0, ⊎_elim (λ e. inl (back t.1 e)) (λ k. inr (touch_below index n (omega arith) t.1 k)) ((row_above on (n - 11)).0 t.2).1)),
      (λ w.
          let low : 11 ≤ n = ⊎_elim (λ e. again e) (touch_low index n high) w.1 in
          (is n).1 (
            w.0,
            low,
            (row_above on (n - 11)).1
                (on_board_above size n low w.0, ⊎_elim (λ e. inl (down e)) (λ k. inr (touch_above index n (omega arith) low k)) w.1),
          )),
    )
      where
        back : 11 ≤ n → n - 11 ≡ index - 11 → n ≡ index
        back low e = omega arith

        again : n ≡ index → 11 ≤ n
        again e = omega arith

        down : n ≡ index → n - 11 ≡ index - 11
        down e = omega arith
