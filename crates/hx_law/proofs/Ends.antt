-- Play on a board ends, since each stone leaves one empty cell less. So a law of the game goes by induction on the
-- boards after one stone more. And of two outcomes for each empty cell, some cell has the first or all cells have the
-- second.
use Rattle.std.proofs.Common.{◌≡◌, ℕ, zero, suc, ◌+◌, ◌*◌, ◌/◌, ◌<◌, ◌≤◌, Bool, true, false, refl, sym, ◌∙◌, subst, arith, ◌⊎◌, inl, inr}
use Rattle.std.proofs.Common.{⊎_elim}
use Rattle.std.proofs.lemmas.Bool.{false≢true, cases_lt}
use Rattle.hx_board.specs.declared.colours.Colour.{Colour}
use Rattle.hx_board.specs.Sets.{has}
use Rattle.hx_board.specs.Cells.{row_of, col_of}
use Rattle.hx_board.specs.Positions.{Board, IsEmpty, put}
use Rattle.hx_board.proofs.StoneLaws.{size-put, empty-put}

-- play on a board ends
pub data Ends : Board → Type 0 where
  After : (board : Board) → ((who : Colour) (cell : ℕ) → IsEmpty board cell → Ends (put board who cell)) → Ends board

-- ---- whether a cell is empty

module _ (board : Board) (cell : ℕ) where
  decide : (row_of cell < board.size.rows) ⊎ (board.size.rows ≤ row_of cell) → (col_of cell < board.size.cols)
      ⊎ (board.size.cols ≤ col_of cell)
      → (black : Bool) → has board.black cell ≡ black → (white : Bool) → has board.white cell ≡ white → Dec (IsEmpty board cell)
  decide (inl row) (inl col) false no_black false no_white =
      yes (record { on_board = record { row = row; col = col }; no_black = no_black; no_white = no_white })
  decide (inl row) (inl col) false no_black true white = no (λ empty. false≢true (sym empty.no_white ∙ white))
  decide (inl row) (inl col) true black _ _ = no (λ empty. false≢true (sym empty.no_black ∙ black))
  decide (inl row) (inr beyond) _ _ _ _ = no (λ empty. let col : col_of cell < board.size.cols = empty.on_board.col in omega arith)
  decide (inr beyond) _ _ _ _ _ = no (λ empty. let row : row_of cell < board.size.rows = empty.on_board.row in omega arith)

  pub is_empty : Dec (IsEmpty board cell)
  is_empty = decide (cases_lt (row_of cell) board.size.rows) (cases_lt (col_of cell) board.size.cols) (has board.black cell) refl
      (has board.white cell) refl

-- ---- the number of empty cells falls

abbrev one_if : {A : Type 0} → Dec A → ℕ
one_if (yes _) = 1
one_if (no _) = 0

one_if-le : {A B : Type 0} (a : Dec A) (b : Dec B) → (A → B) → one_if a ≤ one_if b
one_if-le (yes a) (yes b) h = omega arith
one_if-le (yes a) (no b) h = absurd (b (h a))
one_if-le (no a) b h = omega arith

one_if-lt : {A B : Type 0} (a : Dec A) (b : Dec B) → ¬ A → B → one_if a < one_if b
one_if-lt (yes a) b none some = absurd (none a)
one_if-lt (no a) (yes b) none some = omega arith
one_if-lt (no a) (no b) none some = absurd (b some)

-- how many of the first cells are empty
abbrev empties_below : ℕ → Board → ℕ
empties_below zero board = 0
empties_below (suc n) board = one_if (is_empty board n) + empties_below n board

module _ (board : Board) (who : Colour) (cell : ℕ) (empty : IsEmpty board cell) where
  abbrev after : Board
  after = put board who cell

  not_more : (n : ℕ) → empties_below n after ≤ empties_below n board
  not_more zero = omega arith
  not_more (suc n) = let here = one_if-le (is_empty after n) (is_empty board n) (λ e. ((empty-put board who cell n).0 e).0) in let rest =
      not_more n in omega arith

  fewer : (n : ℕ) → cell < n → empties_below n after < empties_below n board
  fewer zero less = absurd (omega arith)
  fewer (suc n) less = ⊎_elim
      (λ (before : cell < n).
      let here = one_if-le (is_empty after n) (is_empty board n) (λ e. ((empty-put board who cell n).0 e).0) in
      let rest = fewer n before in
      omega arith)
      (λ (last : n ≤ cell).
      let same : n ≡ cell = omega arith in
      let here = one_if-lt (is_empty after n) (is_empty board n) (λ e. ((empty-put board who cell n).0 e).1 same) (rw same empty) in
      let rest = not_more n in
      omega arith)
      (cases_lt cell n)

-- no cell of a board has an index from here on
abbrev bound : Board → ℕ
bound board = 11 * board.size.rows

empty-below : (board : Board) (cell : ℕ) → IsEmpty board cell → cell < bound board
empty-below board cell empty = let row : cell / 11 < board.size.rows = empty.on_board.row in omega arith

ends_within : (n : ℕ) (board : Board) → empties_below (bound board) board < n → Ends board
ends_within zero board less = absurd (omega arith)
ends_within (suc n) board less = After board (λ who cell empty.
    let fall : empties_below (bound board) (put board who cell) < empties_below (bound board) board =
    fewer board who cell empty (bound board) (empty-below board cell empty) in
    ends_within n (put board who cell) (rw (size-put board who cell) (omega arith)))

pub ends : (board : Board) → Ends board
ends board = ends_within (suc (empties_below (bound board) board)) board (omega arith)

-- ---- a choice for each empty cell

module _ (board : Board) (P Q : ℕ → Type 0) (each : (cell : ℕ) → IsEmpty board cell → P cell ⊎ Q cell) where
  abbrev Some : Type 0
  Some = (cell : ℕ) × (IsEmpty board cell × P cell)

  abbrev AllBelow : ℕ → Type 0
  AllBelow n = (cell : ℕ) → cell < n → IsEmpty board cell → Q cell

  one_more : (n : ℕ) → AllBelow n → (IsEmpty board n → Q n) → AllBelow (suc n)
  one_more n all here cell less empty = ⊎_elim
      (λ before. all cell before empty)
      (λ last. let same : cell ≡ n = omega arith in let P : ℕ → Type 0 = λ k. IsEmpty board k → Q k in subst P (sym same) here empty)
      (cases_lt cell n)

  some_or_one_more : (n : ℕ) → AllBelow n → Dec (IsEmpty board n) → Some ⊎ AllBelow (suc n)
  some_or_one_more n all (yes empty) = ⊎_elim (λ p. inl (n, (empty, p))) (λ q. inr (one_more n all (λ _. q))) (each n empty)
  some_or_one_more n all (no held) = inr (one_more n all (λ empty. absurd (held empty)))

  some_or_below : (n : ℕ) → Some ⊎ AllBelow n
  some_or_below zero = inr (λ cell less empty. absurd (omega arith))
  some_or_below (suc n) = ⊎_elim inl (λ all. some_or_one_more n all (is_empty board n)) (some_or_below n)

  pub some_or_all : Some ⊎ ((cell : ℕ) → IsEmpty board cell → Q cell)
  some_or_all = ⊎_elim inl (λ all. inr (λ cell empty. all cell (empty-below board cell empty) empty)) (some_or_below (bound board))

-- some cell is empty, or none is
pub some_or_none : (board : Board) → ((cell : ℕ) × IsEmpty board cell) ⊎ ((cell : ℕ) → ¬ IsEmpty board cell)
some_or_none board = ⊎_elim (λ w. inl (w.0, w.1.0)) inr (some_or_all board (λ _. Unit {0}) (λ _. ⊥) (λ _ _. inl tt))
