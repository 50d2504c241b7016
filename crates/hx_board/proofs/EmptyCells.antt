-- The laws of the number of empty cells. A stone on an empty cell changes the answer of `is_empty` at that cell alone,
-- so the count falls by one.
use Rattle.std.proofs.Common.{◌≡◌, ◌≢◌, ℕ, zero, suc, ◌+◌, ◌*◌, ◌<◌, ◌≤◌, Bool, true, false, ◌||◌, ◌&&◌, not, ltb, refl, sym, ap, ◌∙◌}
use Rattle.std.proofs.Common.{arith, ⊎_elim, ◌↔◌, eqb-true}
use Rattle.std.proofs.lemmas.Bool.{false≢true, cases_lt, ltb-true, lt-ltb, not-true, not_from_false, and_from, false_from_ne_true}
use Rattle.std.specs.Prelude.{if◌then◌else◌}
use Rattle.hx_board.specs.Sets.{has, insert, count_below}
use Rattle.hx_board.specs.Cells.{IsExtent, row_of, col_of}
use Rattle.hx_board.specs.declared.colours.Colour.{Colour}
use Rattle.hx_board.specs.declared.colours.Colour.TheVariants.{Black, White}
use Rattle.hx_board.specs.Positions.{Board, IsBoard, IsEmpty, put}
use Rattle.hx_board.specs.Counts.{is_empty, empty_below, empty_count, sweep_size}
use Rattle.hx_board.proofs.SetLaws.{has-insert, has-insert_same, same_test}
use Rattle.hx_board.proofs.CellLaws.{on_board-small}
use Rattle.hx_board.proofs.Tallies.{share, tally, tally-same, tally-one_less, tally-none, count_below-tally}

-- ---- the test of one cell

is_empty-parts : (board : Board) (cell : ℕ)
    → is_empty board cell ≡ (ltb (row_of cell) board.size.rows && ltb (col_of cell) board.size.cols && not (has board.black cell)
    && not (has board.white cell))
unfolding is_empty
is_empty-parts board cell = refl

pub is_empty-is : (board : Board) (cell : ℕ) → (is_empty board cell ≡ true) ↔ IsEmpty board cell
is_empty-is board cell = (
  (λ h. let t = tests (ltb (row_of cell) board.size.rows) _ _ _ (sym (is_empty-parts board cell) ∙ h) in record {
    on_board = record { row = ltb-true _ _ t.0; col = ltb-true _ _ t.1 };
    no_black = not-true _ t.2;
    no_white = not-true _ t.3;
  }),
  (λ e. is_empty-parts board cell
      ∙ and_from _ _ (and_from _ _ (and_from _ _ (lt-ltb _ _ e.on_board.row) (lt-ltb _ _ e.on_board.col)) (not_from_false _ e.no_black))
      (not_from_false _ e.no_white)),
)
  where
    tests : (a b c d : Bool) → (a && b && c && d) ≡ true → (a ≡ true) × (b ≡ true) × (c ≡ true) × (d ≡ true)
    tests true true true d h = (refl, refl, refl, h)
    tests true true false d h = absurd (false≢true h)
    tests true false c d h = absurd (false≢true h)
    tests false b c d h = absurd (false≢true h)

-- the cell of the new stone is not empty, and each other is as before
pub put-not_empty : (board : Board) (colour : Colour) (cell : ℕ) → is_empty (put board colour cell) cell ≡ false
put-not_empty board colour cell = false_from_ne_true _ (λ h. held colour ((is_empty-is (put board colour cell) cell).0 h))
  where
    held : (colour : Colour) → IsEmpty (put board colour cell) cell → ⊥
    held Black e = false≢true (sym e.no_black ∙ has-insert_same board.black cell)
    held White e = false≢true (sym e.no_white ∙ has-insert_same board.white cell)

has-insert_elsewhere : (set cell n : ℕ) → n ≢ cell → has (insert set cell) n ≡ has set n
has-insert_elsewhere set cell n other = has-insert set cell n
    ∙ ap (λ b. b || has set n) (false_from_ne_true _ (λ h. other (eqb-true n cell h)))

pub put-elsewhere : (board : Board) (colour : Colour) (cell n : ℕ) → n ≢ cell → is_empty (put board colour cell) n ≡ is_empty board n
unfolding is_empty
put-elsewhere board Black cell n other = rw (has-insert_elsewhere board.black cell n other) refl
put-elsewhere board White cell n other = rw (has-insert_elsewhere board.white cell n other) refl

-- ---- counts

empty_below-tally : (bound : ℕ) (board : Board) → empty_below bound board ≡ tally (is_empty board) bound
unfolding empty_below
empty_below-tally zero board = refl
empty_below-tally (suc bound) board = let rest = empty_below-tally bound board in omega arith

-- the members of the set of the empty cells are counted
count_below-empty : (bound : ℕ) (board : Board) (set : ℕ) → ((cell : ℕ) → (has set cell ≡ true) ↔ IsEmpty board cell)
    → count_below bound set ≡ empty_below bound board
count_below-empty bound board set is_set =
    rw (count_below-tally bound set, empty_below-tally bound board) (tally-same (has set) (is_empty board) bound (λ cell _. same cell))
  where
    same : (cell : ℕ) → has set cell ≡ is_empty board cell
    same cell = same_test _ _ (λ h. (is_empty-is board cell).1 ((is_set cell).0 h)) (λ h. (is_set cell).1 ((is_empty-is board cell).0 h))

-- ---- the count of the whole board

one_or_none-small : (b : Bool) → (if b then 1 else 0) ≤ 1
one_or_none-small true = omega arith
one_or_none-small false = omega arith

empty_below-small : (bound : ℕ) (board : Board) → empty_below bound board ≤ bound
unfolding empty_below
empty_below-small zero board = omega arith
empty_below-small (suc bound) board =
    omega (arith, one_or_none-small (is_empty board bound), empty_below-small bound board)

pub empty_count-small : (board : Board) → empty_count board ≤ 121
unfolding empty_count
empty_count-small board = empty_below-small 121 board

-- a stone on an empty cell makes it one less
pub empty_count-put : (board : Board) (colour : Colour) (cell : ℕ) → IsBoard board → IsEmpty board cell
    → empty_count board ≡ suc (empty_count (put board colour cell))
unfolding empty_count
empty_count-put board colour cell is e =
    rw (empty_below-tally 121 board, empty_below-tally 121 (put board colour cell))
    (tally-one_less (is_empty board) (is_empty (put board colour cell)) cell 121 ((is_empty-is board cell).1 e)
    (put-not_empty board colour cell)
    (λ n other. sym (put-elsewhere board colour cell n other)) (on_board-small board.size cell is.0 e.on_board))

pub some_empty-count : (board : Board) (cell : ℕ) → IsBoard board → IsEmpty board cell → 1 ≤ empty_count board
some_empty-count board cell is e = let more = empty_count-put board Black cell is e in omega arith

pub none_empty : (board : Board) → IsBoard board → empty_count board ≡ 0 → (cell : ℕ) → IsEmpty board cell → ⊥
none_empty board is none cell e = let some = some_empty-count board cell is e in absurd (omega arith)

pub none_empty-count : (board : Board) → ((cell : ℕ) → IsEmpty board cell → ⊥) → empty_count board ≡ 0
unfolding empty_count
none_empty-count board none =
    empty_below-tally 121 board
    ∙ tally-none (is_empty board) 121 (λ cell _. false_from_ne_true _ (λ e. none cell ((is_empty-is board cell).0 e)))

-- from 121 on there is no cell
above_board : (more : ℕ) (board : Board) → IsExtent board.size.rows board.size.cols → empty_below (121 + more) board ≡ empty_below 121 board
unfolding empty_below
above_board zero board extent = refl
above_board (suc more) board extent =
    let off = ap share (false_from_ne_true (is_empty board (121 + more)) (λ h. outside ((is_empty-is board (121 + more)).0 h))) in
    let rest = above_board more board extent in
    let next : 121 + suc more ≡ suc (121 + more) = omega arith in rw next (omega arith)
  where
    outside : IsEmpty board (121 + more) → ⊥
    outside e = let small : 121 + more < 121 = on_board-small board.size (121 + more) extent e.on_board in absurd (omega arith)

pub empties-count : (board : Board) (set : ℕ) → IsBoard board → ((cell : ℕ) → (has set cell ≡ true) ↔ IsEmpty board cell)
    → count_below 128 set ≡ empty_count board
unfolding empty_count
empties-count board set is is_set = count_below-empty 128 board set is_set ∙ above_board 7 board is.0

-- ---- the size of a full search

pub sweep_size-suc : (empty : ℕ) → sweep_size (suc empty) ≡ 1 + suc empty * sweep_size empty
unfolding sweep_size
sweep_size-suc empty = refl

pub sweep_size-positive : (empty : ℕ) → 1 ≤ sweep_size empty
unfolding sweep_size
sweep_size-positive zero = omega arith
sweep_size-positive (suc empty) = omega arith

pub sweep_size-more : (empty : ℕ) → sweep_size empty ≤ sweep_size (suc empty)
unfolding sweep_size
sweep_size-more empty = grind arith

pub sweep_size-below : (less more : ℕ) → less ≤ more → sweep_size less ≤ sweep_size more
sweep_size-below less zero h = let same : less ≡ 0 = omega arith in rw same (omega arith)
sweep_size-below less (suc more) h =
    ⊎_elim (λ k. let rest = sweep_size-below less more (omega arith) in let step = sweep_size-more more in omega arith) same
    (cases_lt less (suc more))
  where
    same : suc more ≤ less → sweep_size less ≤ sweep_size (suc more)
    same k = let e : less ≡ suc more = omega arith in rw e (omega arith)

-- with nine empty cells a full search has fewer than 2 ^ 20 nodes
pub sweep_size-nine : sweep_size 9 ≡ 986410
unfolding sweep_size
sweep_size-nine = refl
