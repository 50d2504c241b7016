-- The first faulty line of a position's text: one of its board's, that of the player to move, or one more.
use Rattle.std.proofs.Common.{◌≡◌, ◌≢◌, ℕ, List, [], ◌∷◌, ◌++◌, length, refl, ap, arith, None}
use Rattle.hx_board.specs.declared.colours.Colour.{Colour}
use Rattle.hx_board.specs.declared.colours.Colour.TheVariants.{Black}
use Rattle.hx_board.specs.Positions.{Board, IsBoard}
use Rattle.hx_lex.specs.Words.{Reads}
use Rattle.hx_text.specs.Grammars.{Begins, IsFaultyLine}
use Rattle.hx_text.specs.PositionTexts.{position_title, move_line, position_lines, ArePositionLines}
use Rattle.hx_text.proofs.WholePositions.{AllLack-position}
use Rattle.hx_parse.specs.Boards.{titled_board, IsBoardFault}
use Rattle.hx_parse.specs.TextLines.{Unread, StandsBehind, LacksLine}
use Rattle.hx_parse.proofs.BoardFaults.{HasBoard, board_fault}
use Rattle.hx_parse.proofs.UnreadLines.{lacking_is_faulty, surplus_line_is_faulty}

has_board : (lines : List (List ℕ)) → ArePositionLines lines → HasBoard position_title lines
has_board lines are = record { board = are.board; is_board = are.is_board; more = move_line are.mover ∷ []; parts = are.same }

begins : (board : Board) → IsBoard board → Begins ArePositionLines (titled_board position_title board)
begins board is = (move_line Black ∷ [], record { board = board; mover = Black; is_board = is; same = refl })

pub no_board : (bytes : List ℕ) (line : ℕ) → IsBoardFault position_title bytes line → IsFaultyLine ArePositionLines bytes line
no_board bytes line fault = board_fault position_title ArePositionLines has_board begins bytes line fault

module _ {bytes : List ℕ} {unread : Unread} {line : ℕ} (board : Board) (is : IsBoard board) where
  pub no_mover : StandsBehind bytes (titled_board position_title board) unread
      → LacksLine (λ text. Reads move_line (λ _. Unit {0}) text None) unread line → IsFaultyLine ArePositionLines bytes line
  no_mover stands lacks =
      lacking_is_faulty ArePositionLines AllLack-position stands lacks (begins board is) (λ are. absurd (omega (arith, ap length are.same)))
      (λ next other b.
      let same : titled_board position_title board ++ next ∷ b.0 ≡ position_lines b.1.board b.1.mover = b.1.same in
      let fifth : next ≡ move_line b.1.mover = cc in
      other b.1.mover tt fifth)

  pub sixth_line : (mover : Colour) → StandsBehind bytes (position_lines board mover) unread → unread.rest ≢ [] → line ≡ unread.number
      → IsFaultyLine ArePositionLines bytes line
  sixth_line mover stands some named =
      surplus_line_is_faulty ArePositionLines AllLack-position stands some named
      ([], record { board = board; mover = mover; is_board = is; same = refl })
      (λ next b. absurd (omega (arith, ap length b.1.same)))
