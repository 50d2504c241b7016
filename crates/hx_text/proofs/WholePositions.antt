-- Two positions have different texts.
use Rattle.std.proofs.Common.{◌≡◌, ℕ, List}
use Rattle.hx_board.specs.declared.colours.Colour.{Colour}
use Rattle.hx_board.specs.declared.colours.Colour.TheVariants.{Black, White}
use Rattle.hx_board.specs.Positions.{Board, IsBoard}
use Rattle.hx_board.proofs.PositionLaws.{same_board}
use Rattle.hx_text.specs.PositionTexts.{position_lines, position_text, size_line, stones_line, move_line, ArePositionLines}
use Rattle.hx_text.proofs.Injective.{size_injective}
use Rattle.hx_text.proofs.Cuts.{AllLack, text_injective}
use Rattle.hx_text.proofs.PositionLines.{stones_injective, move_injective, black_small, white_small, AllLack-position_lines}

pub lines_tell_board : (a b : Board) → IsBoard a → IsBoard b → size_line a.size ≡ size_line b.size
    → stones_line Black a.black ≡ stones_line Black b.black → stones_line White a.white ≡ stones_line White b.white → a ≡ b
lines_tell_board a b fits_a fits_b sizes blacks whites =
    same_board a b (size_injective a.size b.size fits_a.0 fits_b.0 sizes)
    (stones_injective Black a.black b.black (black_small a.size a.black a.white fits_a.0 fits_a.1)
    (black_small b.size b.black b.white fits_b.0 fits_b.1) blacks)
    (stones_injective White a.white b.white (white_small a.size a.black a.white fits_a.0 fits_a.1)
    (white_small b.size b.black b.white fits_b.0 fits_b.1) whites)

position_injective : (a b : Board) (m n : Colour) → IsBoard a → IsBoard b → position_lines a m ≡ position_lines b n → (a ≡ b) × (m ≡ n)
position_injective a b m n fits_a fits_b e =
    let sizes : size_line a.size ≡ size_line b.size = cc in
    let blacks : stones_line Black a.black ≡ stones_line Black b.black = cc in
    let whites : stones_line White a.white ≡ stones_line White b.white = cc in
    let moves : move_line m ≡ move_line n = cc in
    (lines_tell_board a b fits_a fits_b sizes blacks whites, move_injective m n moves)

pub AllLack-position : (lines : List (List ℕ)) → ArePositionLines lines → AllLack lines
AllLack-position lines are = rw are.same (AllLack-position_lines are.board are.mover are.is_board)

-- two positions and players to move with the same text are the same
pub text_tells_position : (a b : Board) (m n : Colour) → IsBoard a → IsBoard b → position_text a m ≡ position_text b n → (a ≡ b) × (m ≡ n)
text_tells_position a b m n fits_a fits_b e =
    let lines : position_lines a m ≡ position_lines b n =
    text_injective (position_lines a m) (position_lines b n) (AllLack-position_lines a m fits_a) (AllLack-position_lines b n fits_b) e in
    position_injective a b m n fits_a fits_b lines
