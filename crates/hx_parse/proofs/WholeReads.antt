-- The text of a position has no faulty line, so what is spelled is read.
use Rattle.std.proofs.Common.{◌≡◌, ℕ, List, refl, sym, ap, ◌∙◌}
use Rattle.std.specs.Result.{IfOk, IfErr}
use Rattle.std.specs.declared.result.Result.{Result}
use Rattle.std.specs.declared.result.Result.TheVariants.{Ok, Err}
use Rattle.hx_board.specs.declared.colours.Colour.{Colour}
use Rattle.hx_board.specs.Positions.{Board, IsBoard}
use Rattle.hx_parse.specs.declared.text_lines.TextFault.{TextFault}
use Rattle.hx_text.specs.Grammars.{IsFaultyLine}
use Rattle.hx_text.specs.PositionTexts.{position_lines, position_text, ArePositionLines}
use Rattle.hx_text.proofs.LineGrammars.{text_not_faulty}
use Rattle.hx_text.proofs.WholePositions.{AllLack-position, text_tells_position}

-- what is spelled so is read
pub spelled_is_read : (bytes : List ℕ) (read : Result (Board × Colour) TextFault)
    → IfOk read (λ found. IsBoard found.0 × (bytes ≡ position_text found.0 found.1))
    → IfErr read (λ fault. IsFaultyLine ArePositionLines bytes fault.line)
    → (board : Board) (mover : Colour) → IsBoard board → bytes ≡ position_text board mover → read ≡ Ok (board, mover)
spelled_is_read bytes (Ok (a, m)) is bad board mover fits e =
    let same = text_tells_position a board m mover is.0 fits (sym is.1 ∙ e) in
    ap (λ (b : Board). Ok (b, m)) same.0 ∙ ap (λ (c : Colour). Ok (board, c)) same.1
spelled_is_read bytes (Err fault) is bad board mover fits e =
    let are : ArePositionLines (position_lines board mover) = record { board = board; mover = mover; is_board = fits; same = refl } in
    absurd (text_not_faulty ArePositionLines AllLack-position (position_lines board mover) bytes fault.line are e bad)
