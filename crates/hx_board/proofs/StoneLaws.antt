-- The board after one stone more: whose stones it has, which cells are empty, and that it is a position.
use Rattle.std.proofs.Common.{◌≡◌, ◌≢◌, ℕ, true, false, refl, sym, ◌∙◌, ◌⊎◌, inl, inr, ⊎_elim, ◌↔◌}
use Rattle.std.proofs.lemmas.Bool.{false≢true, false_from_ne_true}
use Rattle.hx_board.specs.declared.colours.Colour.{Colour}
use Rattle.hx_board.specs.declared.colours.Colour.TheVariants.{Black, White}
use Rattle.hx_board.specs.Colours.{other_of}
use Rattle.hx_board.specs.Cells.{OnBoard}
use Rattle.hx_board.specs.Sets.{has, insert}
use Rattle.hx_board.specs.Positions.{Board, IsBoard, IsEmpty, IsHeld, put, stones_of}
use Rattle.hx_board.proofs.SetLaws.{has-insert_cases, has-insert_same, has-insert_other}
use Rattle.hx_board.proofs.PositionLaws.{black-is_position, white-is_position}

pub size-put : (board : Board) (who : Colour) (cell : ℕ) → (put board who cell).size ≡ board.size
size-put board Black cell = refl
size-put board White cell = refl

pub board-put : (board : Board) (who : Colour) (cell : ℕ) → IsBoard board → IsEmpty board cell → IsBoard (put board who cell)
board-put board Black cell is empty = (is.0, black-is_position board cell is.1 empty)
board-put board White cell is empty = (is.0, white-is_position board cell is.1 empty)

pub held-put : (board : Board) (who : Colour) (cell : ℕ) → IsHeld (put board who cell) cell
held-put board Black cell = inl (has-insert_same board.black cell)
held-put board White cell = inr (has-insert_same board.white cell)

has-insert_either : (set cell n : ℕ) → (n ≡ cell) ⊎ (has set n ≡ true) → has (insert set cell) n ≡ true
has-insert_either set cell n (inl same) = rw same (has-insert_same set cell)
has-insert_either set cell n (inr member) = has-insert_other set cell n member

-- a player's stones are those from before, and the new one where it is the player's
pub stones-put : (board : Board) (who player : Colour) (cell n : ℕ) → (has (stones_of (put board who cell) player) n ≡ true)
    ↔ (((who ≡ player) × (n ≡ cell)) ⊎ (has (stones_of board player) n ≡ true))
stones-put board Black Black cell n = (
  (λ h. ⊎_elim (λ e. inl (refl, e)) inr (has-insert_cases board.black cell n h)),
  ⊎_elim (λ w. has-insert_either _ _ _ (inl w.1)) (λ h. has-insert_either _ _ _ (inr h)),
)
stones-put board Black White cell n = (inr, ⊎_elim (λ w. let e = w.0 in cc) (λ h. h))
stones-put board White Black cell n = (inr, ⊎_elim (λ w. let e = w.0 in cc) (λ h. h))
stones-put board White White cell n = (
  (λ h. ⊎_elim (λ e. inl (refl, e)) inr (has-insert_cases board.white cell n h)),
  ⊎_elim (λ w. has-insert_either _ _ _ (inl w.1)) (λ h. has-insert_either _ _ _ (inr h)),
)

-- the empty cells are those from before, without the new stone's
empty_before : (board : Board) (who : Colour) (cell n : ℕ) → IsEmpty (put board who cell) n → IsEmpty board n
empty_before board Black cell n empty = record {
  on_board = empty.on_board;
  no_black = false_from_ne_true _ (λ h. false≢true (sym empty.no_black ∙ has-insert_other board.black cell n h));
  no_white = empty.no_white;
}
empty_before board White cell n empty = record {
  on_board = empty.on_board;
  no_black = empty.no_black;
  no_white = false_from_ne_true _ (λ h. false≢true (sym empty.no_white ∙ has-insert_other board.white cell n h));
}

not_on_stone : (board : Board) (who : Colour) (cell n : ℕ) → IsEmpty (put board who cell) n → n ≢ cell
not_on_stone board Black cell n empty same = false≢true (sym empty.no_black ∙ has-insert_either board.black cell n (inl same))
not_on_stone board White cell n empty same = false≢true (sym empty.no_white ∙ has-insert_either board.white cell n (inl same))

empty_after : (board : Board) (who : Colour) (cell n : ℕ) → IsEmpty board n → n ≢ cell → IsEmpty (put board who cell) n
empty_after board Black cell n empty other = record {
  on_board = empty.on_board;
  no_black = false_from_ne_true _ (λ h. ⊎_elim other (λ k. false≢true (sym empty.no_black ∙ k)) (has-insert_cases board.black cell n h));
  no_white = empty.no_white;
}
empty_after board White cell n empty other = record {
  on_board = empty.on_board;
  no_black = empty.no_black;
  no_white = false_from_ne_true _ (λ h. ⊎_elim other (λ k. false≢true (sym empty.no_white ∙ k)) (has-insert_cases board.white cell n h));
}

pub empty-put : (board : Board) (who : Colour) (cell n : ℕ) → IsEmpty (put board who cell) n ↔ (IsEmpty board n × (n ≢ cell))
empty-put board who cell n =
    ((λ empty. (empty_before board who cell n empty, not_on_stone board who cell n empty)), (λ w. empty_after board who cell n w.0 w.1))

-- ---- empty cells by a player's stones and the other's

pub empty-no_stone : (board : Board) (player : Colour) (cell : ℕ) → IsEmpty board cell → has (stones_of board player) cell ≡ false
empty-no_stone board Black cell empty = empty.no_black
empty-no_stone board White cell empty = empty.no_white

pub no_stones-empty : (board : Board) (player : Colour) (cell : ℕ) → OnBoard board.size cell
    → has (stones_of board player) cell ≡ false → has (stones_of board (other_of player)) cell ≡ false → IsEmpty board cell
no_stones-empty board Black cell on own others = record { on_board = on; no_black = own; no_white = others }
no_stones-empty board White cell on own others = record { on_board = on; no_black = others; no_white = own }
