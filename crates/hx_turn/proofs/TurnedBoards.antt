-- Two boards that mirror each other: of one size, and each stone of the one stands on the turned cell of the other. A
-- board and its turned board are such, both ways, and stay so when both get a stone. Such boards are turned boards of
-- one another.
use Rattle.std.proofs.Common.{◌≡◌, ℕ, true, false, refl, sym, ap, ◌∙◌, subst, inl, inr, ⊎_elim}
use Rattle.std.proofs.lemmas.Bool.{false≢true, false_from_ne_true}
use Rattle.hx_board.specs.declared.colours.Colour.{Colour}
use Rattle.hx_board.specs.declared.colours.Colour.TheVariants.{Black, White}
use Rattle.hx_board.specs.Sets.{has}
use Rattle.hx_board.specs.Cells.{Extent, IsExtent, OnBoard}
use Rattle.hx_board.specs.Positions.{Board, IsBoard, IsEmpty, put, stones_of}
use Rattle.hx_board.proofs.SetLaws.{same_set, same_test}
use Rattle.hx_board.proofs.PositionLaws.{same_board}
use Rattle.hx_board.proofs.StoneLaws.{size-put, stones-put}
use Rattle.hx_turn.specs.Turned.{turned_cell, IsTurned}
use Rattle.hx_turn.proofs.TurnedCells.{on_board-turned, turned-turned}

pub record Mirrors (size : Extent) (board turned : Board) : Type 0 where
  pub extent : IsExtent size.rows size.cols
  pub board_size : board.size ≡ size
  pub turned_size : turned.size ≡ size
  pub there : (player : Colour) (cell : ℕ) → OnBoard size cell → has (stones_of board player) cell ≡ true
      → has (stones_of turned player) (turned_cell size cell) ≡ true
  pub back : (player : Colour) (cell : ℕ) → OnBoard size cell → has (stones_of turned player) cell ≡ true
      → has (stones_of board player) (turned_cell size cell) ≡ true

pub exchanged : (size : Extent) (board turned : Board) → Mirrors size board turned → Mirrors size turned board
exchanged size board turned m =
    record { extent = m.extent; board_size = m.turned_size; turned_size = m.board_size; there = m.back; back = m.there }

pub turned-mirrors : (board turned : Board) → IsBoard board → IsTurned board turned → Mirrors board.size board turned
turned-mirrors board turned is turn = record {
  extent = is.0;
  board_size = refl;
  turned_size = turn.same_size;
  there = λ player cell here h. (turn.stones player (turned_cell board.size cell)).1 (
    on_board-turned board.size is.0 cell here,
    ap (λ (n : ℕ). has (stones_of board player) n) (turned-turned board.size is.0 cell here) ∙ h,
  );
  back = λ player cell here h. ((turn.stones player cell).0 h).1;
}

-- a position's stones stand on its board, and no cell holds two
pub stone-on_board : (board : Board) → IsBoard board → (player : Colour) (cell : ℕ) → has (stones_of board player) cell ≡ true
    → OnBoard board.size cell
stone-on_board board is Black cell = is.1.black_inside cell
stone-on_board board is White cell = is.1.white_inside cell

pub mirrors-turned : (board turned : Board) → Mirrors board.size board turned → IsBoard turned → IsTurned board turned
mirrors-turned board turned m is = record {
  same_size = m.turned_size;
  stones = λ player cell. (
    (λ h. let on : OnBoard turned.size cell = stone-on_board turned is player cell h in
        let P : Extent → Type 0 = λ size. OnBoard size cell in
        let here : OnBoard board.size cell = subst P m.turned_size on in
        (here, m.back player cell here h)),
    (λ w. ap (λ (n : ℕ). has (stones_of turned player) n) (sym (turned-turned board.size m.extent cell w.0))
        ∙ m.there player (turned_cell board.size cell) (on_board-turned board.size m.extent cell w.0) w.1),
  );
}

pub turned-is_board : (board turned : Board) → IsBoard board → IsTurned board turned → IsBoard turned
turned-is_board board turned is turn = (
  let P : Extent → Type 0 = λ size. IsExtent size.rows size.cols in subst P (sym turn.same_size) is.0,
  record {
    apart = λ cell h. false_from_ne_true _ (λ k.
        false≢true (sym (is.1.apart (turned_cell board.size cell) ((turn.stones Black cell).0 h).1) ∙ ((turn.stones White cell).0 k).1));
    black_inside = λ cell h. on Black cell h;
    white_inside = λ cell h. on White cell h;
  },
)
  where
    on : (player : Colour) (cell : ℕ) → has (stones_of turned player) cell ≡ true → OnBoard turned.size cell
    on player cell h = let P : Extent → Type 0 = λ size. OnBoard size cell in subst P (sym turn.same_size) ((turn.stones player cell).0 h).0

pub turned-back : (board turned : Board) → IsBoard board → IsTurned board turned → IsTurned turned board
turned-back board turned is turn =
    mirrors-turned turned board
    (let P : Extent → Type 0 = λ size. Mirrors size turned board in
    subst P (sym turn.same_size) (exchanged board.size board turned (turned-mirrors board turned is turn)))
    is

-- a board has one turned board
pub turned-one : (board one other : Board) → IsTurned board one → IsTurned board other → one ≡ other
turned-one board one other first second =
    same_board one other (first.same_size ∙ sym second.same_size) (same Black) (same White)
  where
    same : (player : Colour) → stones_of one player ≡ stones_of other player
    same player = same_set _ _ (λ n. same_test (has (stones_of one player) n) (has (stones_of other player) n)
        (λ h. (second.stones player n).1 ((first.stones player n).0 h))
        (λ h. (first.stones player n).1 ((second.stones player n).0 h)))

module _ (size : Extent) (board turned : Board) (m : Mirrors size board turned) where
  -- the turned cell of an empty cell is empty
  pub empty-turned : (cell : ℕ) → IsEmpty board cell → IsEmpty turned (turned_cell size cell)
  empty-turned cell empty =
      let P : Extent → Type 0 = λ s. OnBoard s cell in
      let here : OnBoard size cell = subst P m.board_size empty.on_board in
      let Q : Extent → Type 0 = λ s. OnBoard s (turned_cell size cell) in
      record {
        on_board = subst Q (sym m.turned_size) (on_board-turned size m.extent cell here);
        no_black = free Black here empty.no_black;
        no_white = free White here empty.no_white;
      }
    where
      free : (player : Colour) → OnBoard size cell → has (stones_of board player) cell ≡ false
          → has (stones_of turned player) (turned_cell size cell) ≡ false
      free player here lacks = false_from_ne_true _ (λ h.
          false≢true (sym lacks ∙ ap (λ (n : ℕ). has (stones_of board player) n) (sym (turned-turned size m.extent cell here))
          ∙ m.back player (turned_cell size cell) (on_board-turned size m.extent cell here) h))

  -- a stone more on a cell of the one and on the turned cell of the other
  pub put-mirrors : (who : Colour) (cell : ℕ) → OnBoard size cell
      → Mirrors size (put board who cell) (put turned who (turned_cell size cell))
  put-mirrors who cell here = record {
    extent = m.extent;
    board_size = size-put board who cell ∙ m.board_size;
    turned_size = size-put turned who (turned_cell size cell) ∙ m.turned_size;
    there = λ player n on h. (stones-put turned who player (turned_cell size cell) (turned_cell size n)).1
        (⊎_elim (λ w. inl (w.0, ap (turned_cell size) w.1)) (λ k. inr (m.there player n on k)) ((stones-put board who player cell n).0 h));
    back = λ player n on h. (stones-put board who player cell (turned_cell size n)).1
        (⊎_elim
        (λ w. inl (w.0, ap (turned_cell size) w.1 ∙ turned-turned size m.extent cell here))
        (λ k. inr (m.back player n on k))
        ((stones-put turned who player (turned_cell size cell) n).0 h));
  }
