-- A board in the corner of a triangle: the points of the triangle under the board are Black's, those beside it White's,
-- and a cell without a black stone is White's too. So behind a player's last side lies a line of the player's points.
use Rattle.std.proofs.Common.{◌≡◌, ℕ, ◌+◌, ◌<◌, ◌≤◌, Bool, true, false, refl, sym, ◌∙◌, arith}
use Rattle.std.specs.Prelude.{if◌then◌else◌, nat_le}
use Rattle.std.proofs.lemmas.Bool.{false≢true, le-leb, lt-leb, false_from_ne_true, true_from_ne_false}
use Rattle.hx_board.specs.declared.colours.Colour.{Colour}
use Rattle.hx_board.specs.declared.colours.Colour.TheVariants.{Black, White}
use Rattle.hx_board.specs.Sets.{has}
use Rattle.hx_board.specs.Cells.{OnBoard, row_of, col_of}
use Rattle.hx_board.specs.Positions.{Board, IsFull, IsPosition, stones_of}
use Rattle.hx_law.proofs.Points.{Point}
use Rattle.hx_law.proofs.Depths.{point_of, cell_at, cell_at-point_of, depth, extent}

pub owner : Board → Point → Colour
owner board x = if nat_le board.size.rows
    x.row then Black else (if nat_le board.size.cols x.col then White else (if has board.black (cell_at x) then Black else White))

-- behind the player's last side the points are the player's
pub owner-behind : (board : Board) (player : Colour) (x : Point) → x.row + x.col < board.size.rows + board.size.cols
    → extent player board.size ≤ depth player x → owner board x ≡ player
unfolding owner
owner-behind board Black x inside behind = rw (le-leb board.size.rows x.row behind) refl
owner-behind board White x inside behind = rw (lt-leb board.size.rows x.row (omega arith), le-leb board.size.cols x.col behind) refl

owner-on_board : (board : Board) (cell : ℕ) → OnBoard board.size cell
    → owner board (point_of cell) ≡ (if has board.black cell then Black else White)
unfolding owner
owner-on_board board cell on =
    rw (lt-leb board.size.rows (row_of cell) on.row, lt-leb board.size.cols (col_of cell) on.col, cell_at-point_of cell) refl

pub owner-of_stone : (board : Board) (player : Colour) (cell : ℕ) → IsPosition board.size board.black board.white → OnBoard board.size cell
    → has (stones_of board player) cell ≡ true → owner board (point_of cell) ≡ player
owner-of_stone board Black cell is on stone = rw (owner-on_board board cell on, stone) refl
owner-of_stone board White cell is on stone =
    rw (owner-on_board board cell on, false_from_ne_true _ (λ black. false≢true (sym (is.apart cell black) ∙ stone))) refl

black_only : (b : Bool) → (if b then Black else White) ≡ Black → b ≡ true
black_only true e = refl
black_only false e = cc

white_only : (b : Bool) → (if b then Black else White) ≡ White → b ≡ false
white_only true e = cc
white_only false e = refl

pub stone_of-owner : (board : Board) (player : Colour) (cell : ℕ) → IsFull board → OnBoard board.size cell
    → owner board (point_of cell) ≡ player → has (stones_of board player) cell ≡ true
stone_of-owner board Black cell full on same = black_only _ (sym (owner-on_board board cell on) ∙ same)
stone_of-owner board White cell full on same =
    true_from_ne_false _ (λ no_white.
    full cell (record { on_board = on; no_black = white_only _ (sym (owner-on_board board cell on) ∙ same); no_white = no_white }))
