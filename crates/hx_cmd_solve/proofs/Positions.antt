-- The text of a position tells the position, so at most one answer to it fits: it has no wrong line, and it is small
-- under a budget or not.
use Rattle.std.proofs.Common.{◌≡◌, ℕ, ◌+◌, ◌≤◌, List, [], ◌∷◌, length, refl, sym, ap, ◌∙◌, subst, arith, length-append}
use Rattle.std.specs.Fmt.{decimal}
use Rattle.hx_board.specs.declared.colours.Colour.{Colour}
use Rattle.hx_board.specs.declared.colours.Colour.TheVariants.{Black, White}
use Rattle.hx_board.specs.Cells.{Extent, IsExtent}
use Rattle.hx_board.specs.Positions.{Board, IsBoard}
use Rattle.hx_board.specs.Counts.{IsSmall}
use Rattle.hx_lines.specs.Lines.{longest}
use Rattle.hx_lex.specs.Words.{spaced, mask_word, colour_word}
use Rattle.hx_text.specs.Grammars.{text_of, IsFaultyLine}
use Rattle.hx_text.specs.PositionTexts.{ArePositionLines, position_lines, position_text, position_title, size_line, stones_line, move_line}
use Rattle.hx_lex.proofs.Masks.{length-hex}
use Rattle.hx_lex.proofs.WordLengths.{length-colour_word, length-small}
use Rattle.hx_text.proofs.LineGrammars.{text_not_faulty}
use Rattle.hx_text.proofs.WholePositions.{AllLack-position, text_tells_position}
use Rattle.hx_cmd_solve.specs.Positions.{IsPositionText, IsTextWhere}

-- a text is that of one position
pub same_position : (input : List ℕ) (a b : Board) (m n : Colour) → IsPositionText input a m → IsPositionText input b n → a ≡ b
same_position input a b m n is_a is_b =
    (text_tells_position a b m n is_a.is_board is_b.is_board (sym is_a.same ∙ is_b.same)).0

-- no position is small under a budget and also not
pub small_not_open : (budget : ℕ) (input : List ℕ) → IsTextWhere (λ board. IsSmall board budget) input
    → IsTextWhere (λ board. ¬ IsSmall board budget) input → ⊥
small_not_open budget input small other =
    let same : small.board ≡ other.board = same_position input small.board other.board small.mover other.mover small.text other.text in
    other.holds (subst (λ (board : Board). IsSmall board budget) same small.holds)

-- the text of a position has no wrong line
pub not_bad : (input : List ℕ) (board : Board) (mover : Colour) (line : ℕ) → IsPositionText input board mover
    → IsFaultyLine ArePositionLines input line → ⊥
not_bad input board mover line is bad =
    text_not_faulty ArePositionLines AllLack-position (position_lines board mover) input line
    (record { board = board; mover = mover; is_board = is.is_board; same = refl }) is.same bad

-- ---- and it is short

length-size_line : (size : Extent) → IsExtent size.rows size.cols → length (size_line size) ≤ 10
unfolding spaced
length-size_line size extent =
    omega (
      arith,
      length-append (decimal size.rows) (32 ∷ decimal size.cols),
      length-small size.rows (omega (arith, extent)),
      length-small size.cols (omega (arith, extent)),
    )

length-stones_line : (colour : Colour) (stones : ℕ) → length (stones_line colour stones) ≡ 38
unfolding spaced
length-stones_line colour stones =
    omega (arith, length-append (colour_word colour) (32 ∷ mask_word stones), length-colour_word colour, length-hex 32 stones)

length-move_line : (mover : Colour) → length (move_line mover) ≡ 10
unfolding spaced
length-move_line mover = omega (arith, length-colour_word mover)

length-title : length position_title ≡ 8
unfolding spaced
length-title = refl

length-line : (line : List ℕ) (lines : List (List ℕ)) → length (text_of (line ∷ lines)) ≡ length line + (1 + length (text_of lines))
unfolding text_of
length-line line lines = omega (arith, length-append line (10 ∷ text_of lines))

length-none : length (text_of []) ≡ 0
unfolding text_of
length-none = refl

length-position_text : (board : Board) (mover : Colour) → IsBoard board → length (position_text board mover) ≤ 109
length-position_text board mover is =
    let black : List ℕ = stones_line Black board.black in
    let white : List ℕ = stones_line White board.white in
    let move : List ℕ = move_line mover in
    omega (
      arith,
      length-line position_title (size_line board.size ∷ black ∷ white ∷ move ∷ []),
      length-title,
      length-line (size_line board.size) (black ∷ white ∷ move ∷ []),
      length-size_line board.size is.0,
      length-line black (white ∷ move ∷ []),
      length-stones_line Black board.black,
      length-line white (move ∷ []),
      length-stones_line White board.white,
      length-line move [],
      length-move_line mover,
      length-none,
    )

pub position_text_short : {input : List ℕ} {board : Board} {mover : Colour} → IsPositionText input board mover → length input ≤ longest
position_text_short {input} {board} {mover} is = omega (arith, ap length is.same, length-position_text board mover is.is_board)
