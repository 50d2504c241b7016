-- The turned board as one value is the turned board, and with a stone more it is the one of the board with that stone.
use Rattle.std.proofs.Common.{◌≡◌, ℕ, zero, suc, ◌<◌, Bool, true, false, if◌then◌else◌, refl, sym, ap, ◌∙◌, subst, ◌⊎◌, inl, inr, ⊎_elim}
use Rattle.std.proofs.Common.{arith, ◌↔◌}
use Rattle.std.proofs.lemmas.Bool.{false≢true, cases_eq}
use Rattle.hx_board.specs.declared.colours.Colour.{Colour}
use Rattle.hx_board.specs.declared.colours.Colour.TheVariants.{Black, White}
use Rattle.hx_board.specs.declared.cells.TheConstants.{CELLS}
use Rattle.hx_board.specs.Sets.{has, insert}
use Rattle.hx_board.specs.Cells.{Extent, IsExtent, OnBoard}
use Rattle.hx_board.specs.Positions.{Board, IsBoard, IsEmpty, put, stones_of}
use Rattle.hx_board.proofs.CellLaws.{on_board-small}
use Rattle.hx_board.proofs.SetLaws.{has-empty, has-insert_cases, has-insert_same, has-insert_other}
use Rattle.hx_board.proofs.StoneLaws.{size-put, board-put}
use Rattle.hx_turn.specs.Turned.{turned_cell, IsTurned}
use Rattle.hx_turn.specs.TurnedStones.{turned_cells, turned_of}
use Rattle.hx_turn.proofs.TurnedCells.{on_board-turned, turned-turned}
use Rattle.hx_turn.proofs.TurnedBoards.{Mirrors, stone-on_board, turned-mirrors, mirrors-turned, turned-is_board, turned-back, turned-one}
use Rattle.hx_turn.proofs.TurnedBoards.{empty-turned, put-mirrors}

-- ---- which cells a set of turned cells has

-- a set to which a number was added, or was not
added_cases : (is : Bool) (set k n : ℕ) → has (if is then insert set k else set) n ≡ true → ((is ≡ true) × (n ≡ k)) ⊎ (has set n ≡ true)
added_cases true set k n h = ⊎_elim (λ same. inl (refl, same)) inr (has-insert_cases set k n h)
added_cases false set k n h = inr h

added_same : (is : Bool) (set k : ℕ) → is ≡ true → has (if is then insert set k else set) k ≡ true
added_same true set k h = has-insert_same set k
added_same false set k h = absurd (false≢true h)

added_other : (is : Bool) (set k n : ℕ) → has set n ≡ true → has (if is then insert set k else set) n ≡ true
added_other true set k n h = has-insert_other set k n h
added_other false set k n h = h

-- a number is the turned cell of a cell of the set that is below the bound
record ComesFrom (size : Extent) (set bound n : ℕ) : Type 0 where
  cell : ℕ
  below : cell < bound
  member : has set cell ≡ true
  same : n ≡ turned_cell size cell

comes_from : (size : Extent) (set bound n : ℕ) → has (turned_cells size set bound) n ≡ true → ComesFrom size set bound n
unfolding turned_cells
comes_from size set zero n h = absurd (false≢true (sym (has-empty n) ∙ h))
comes_from size set (suc bound) n h = ⊎_elim
    (λ w. record { cell = bound; below = omega arith; member = w.0; same = w.1 })
    (λ old.
    let from = comes_from size set bound n old in
    record { cell = from.cell; below = omega (arith, from.below); member = from.member; same = from.same })
    (added_cases (has set bound) (turned_cells size set bound) (turned_cell size bound) n h)

comes : (size : Extent) (set bound cell : ℕ) → cell < bound → has set cell ≡ true
    → has (turned_cells size set bound) (turned_cell size cell) ≡ true
unfolding turned_cells
comes size set zero cell below member = absurd (omega arith)
comes size set (suc bound) cell below member = ⊎_elim
    (λ (same : cell ≡ bound).
    let P : ℕ → Type 0 = λ n. has (turned_cells size set (suc bound)) (turned_cell size n) ≡ true in
    subst P (sym same) (added_same (has set bound) (turned_cells size set bound) (turned_cell size bound)
    (ap (has set) (sym same) ∙ member)))
    (λ (other : cell ≡ bound → ⊥).
    added_other (has set bound) (turned_cells size set bound) (turned_cell size bound) (turned_cell size cell)
    (comes size set bound cell (omega (arith, below, other)) member))
    (cases_eq cell bound)

module _ (size : Extent) (extent : IsExtent size.rows size.cols) (set : ℕ)
    (inside : (cell : ℕ) → has set cell ≡ true → OnBoard size cell) where
  turned_cells-are : (cell : ℕ) → (has (turned_cells size set CELLS) cell ≡ true)
      ↔ (OnBoard size cell × (has set (turned_cell size cell) ≡ true))
  turned_cells-are cell = (
    (λ h.
        let from = comes_from size set CELLS cell h in
        let on : OnBoard size from.cell = inside from.cell from.member in
        let P : ℕ → Type 0 = λ n. OnBoard size n × (has set (turned_cell size n) ≡ true) in
        subst P (sym from.same)
        (on_board-turned size extent from.cell on, ap (has set) (turned-turned size extent from.cell on) ∙ from.member)),
    (λ w.
        let turned : OnBoard size (turned_cell size cell) = on_board-turned size extent cell w.0 in
        ap (has (turned_cells size set CELLS)) (sym (turned-turned size extent cell w.0))
        ∙ comes size set CELLS (turned_cell size cell) (on_board-small size (turned_cell size cell) extent turned) w.1),
  )

-- ---- the turned board

pub turned_of-is : (board : Board) → IsBoard board → IsTurned board (turned_of board)
turned_of-is board is = record { same_size = refl; stones = stones }
  where
    stones : (player : Colour) (cell : ℕ) → (has (stones_of (turned_of board) player) cell ≡ true)
        ↔ (OnBoard board.size cell × (has (stones_of board player) (turned_cell board.size cell) ≡ true))
    stones Black cell = turned_cells-are board.size is.0 board.black (stone-on_board board is Black) cell
    stones White cell = turned_cells-are board.size is.0 board.white (stone-on_board board is White) cell

pub is-turned_of : (board turned : Board) → IsBoard board → IsTurned board turned → turned ≡ turned_of board
is-turned_of board turned is turn = turned-one board turned (turned_of board) turn (turned_of-is board is)

pub turned_of-twice : (board : Board) → IsBoard board → turned_of (turned_of board) ≡ board
turned_of-twice board is =
    let turn : IsTurned board (turned_of board) = turned_of-is board is in
    sym (is-turned_of (turned_of board) board (turned-is_board board (turned_of board) is turn)
    (turned-back board (turned_of board) is turn))

module _ (board : Board) (is : IsBoard board) (cell : ℕ) (empty : IsEmpty board cell) where
  mirrors : Mirrors board.size board (turned_of board)
  mirrors = turned-mirrors board (turned_of board) is (turned_of-is board is)

  pub empty-turned_of : IsEmpty (turned_of board) (turned_cell board.size cell)
  empty-turned_of = empty-turned board.size board (turned_of board) mirrors cell empty

  -- a stone more on the board is one more on its turned cell
  pub put-turned_of : (who : Colour) → put (turned_of board) who (turned_cell board.size cell) ≡ turned_of (put board who cell)
  put-turned_of who =
      let there : ℕ = turned_cell board.size cell in
      let P : Extent → Type 0 = λ size. Mirrors size (put board who cell) (put (turned_of board) who there) in
      let both = subst P (sym (size-put board who cell)) (put-mirrors board.size board (turned_of board) mirrors who cell empty.on_board) in
      let turned : IsBoard (put (turned_of board) who there) =
      board-put (turned_of board) who there (turned-is_board board (turned_of board) is (turned_of-is board is)) empty-turned_of in
      is-turned_of (put board who cell) (put (turned_of board) who there) (board-put board who cell is empty)
      (mirrors-turned (put board who cell) (put (turned_of board) who there) both turned)
