-- The lines of a position's text: their words are of high bytes, so each line gives back what it was spelled from.
use Rattle.std.proofs.Common.{◌≡◌, ℕ, refl, arith}
use Rattle.std.specs.Prelude.{codes}
use Rattle.hx_board.specs.declared.colours.Colour.{Colour}
use Rattle.hx_board.specs.declared.colours.Colour.TheVariants.{Black, White}
use Rattle.hx_board.specs.Cells.{Extent, IsExtent}
use Rattle.hx_board.specs.Positions.{Board, IsBoard, IsPosition}
use Rattle.hx_board.proofs.PositionLaws.{board-small}
use Rattle.hx_lex.specs.Marks.{Lacks}
use Rattle.hx_lex.specs.Words.{mask_word, colour_word, IsSet}
use Rattle.hx_text.specs.PositionTexts.{stones_line, move_line, position_lines}
use Rattle.hx_lex.proofs.HighBytes.{is_high, IsHigh-test, IsHigh-hex, IsHigh-colour_word, Lacks-spaced}
use Rattle.hx_lex.proofs.KeyedLines.{Lacks-keyed, keyed_colour_injective, keyed_mask_injective}
use Rattle.hx_text.proofs.LineWords.{size_words, AllHigh-size_words}
use Rattle.hx_text.proofs.Cuts.{AllLack}

pub stones_injective : (player : Colour) (a b : ℕ) → IsSet a → IsSet b → stones_line player a ≡ stones_line player b → a ≡ b
stones_injective player a b small few e = keyed_mask_injective (colour_word player) a b (IsHigh-colour_word player) small few e

pub move_injective : (a b : Colour) → move_line a ≡ move_line b → a ≡ b
unfolding is_high
move_injective a b e = keyed_colour_injective (codes "move") a b (IsHigh-test (codes "move") refl) e

pub Lacks-stones_line : (player : Colour) (stones : ℕ) → Lacks 10 (stones_line player stones)
Lacks-stones_line player stones = Lacks-keyed (colour_word player) (mask_word stones) (IsHigh-colour_word player) (IsHigh-hex 32 stones)

-- no line of a position's text has an LF in it
pub AllLack-position_lines : (board : Board) (mover : Colour) → IsBoard board → AllLack (position_lines board mover)
unfolding is_high
AllLack-position_lines board mover is = (
  Lacks-keyed (codes "hexpos") (codes "1") (IsHigh-test (codes "hexpos") refl) (IsHigh-test (codes "1") refl),
  (
    Lacks-spaced (size_words board.size.rows board.size.cols)
        (AllHigh-size_words board.size.rows board.size.cols (omega (arith, is.0)) (omega (arith, is.0))),
    (
      Lacks-stones_line Black board.black,
      (
        Lacks-stones_line White board.white,
        (Lacks-keyed (codes "move") (colour_word mover) (IsHigh-test (codes "move") refl) (IsHigh-colour_word mover), tt),
      ),
    ),
  ),
)

-- the board of this size with these stones
abbrev pub board_of : Extent → ℕ → ℕ → Board
board_of size black white = record { size = size; black = black; white = white }

pub black_small : (size : Extent) (black white : ℕ) → IsExtent size.rows size.cols → IsPosition size black white → IsSet black
black_small size black white extent fits = (board-small (board_of size black white) (extent, fits)).0

pub white_small : (size : Extent) (black white : ℕ) → IsExtent size.rows size.cols → IsPosition size black white → IsSet white
white_small size black white extent fits = (board-small (board_of size black white) (extent, fits)).1
