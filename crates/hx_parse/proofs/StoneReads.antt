-- What the readers of the stones answer: a set that is read and does not fit is that of no stones that do.
use Rattle.std.proofs.Common.{◌≡◌, ℕ, List, refl, sym, ◌∙◌, Option, Some, None}
use Rattle.std.specs.Option.{SomeIff}
use Rattle.hx_board.specs.declared.colours.Colour.TheVariants.{Black, White}
use Rattle.hx_board.specs.Cells.{Extent, IsExtent}
use Rattle.hx_board.specs.Finds.{Finds}
use Rattle.hx_board.specs.Positions.{Board, IsBoard, IsPosition}
use Rattle.hx_lex.specs.Words.{IsSet}
use Rattle.hx_text.specs.PositionTexts.{stones_line}
use Rattle.hx_text.proofs.PositionLines.{stones_injective, board_of, black_small, white_small}

pub black_misfits : (size : Extent) (black none value : ℕ) (line : List ℕ) → IsExtent size.rows size.cols → IsSet black
    → none ≡ 0 → (IsPosition size black none → ⊥) → line ≡ stones_line Black black → IsPosition size value 0
    → line ≡ stones_line Black value → ⊥
black_misfits size black none value line extent small e misfits read fits f =
    let same : black ≡ value = stones_injective Black black value small (black_small size value 0 extent fits) (sym read ∙ f) in
    misfits (rw (e, same) fits)

pub white_found : (size : Extent) (black white : ℕ) (line : List ℕ) (found : Option Board) → IsExtent size.rows size.cols
    → IsSet white → line ≡ stones_line White white
    → SomeIff found (IsPosition size black white) (board_of size black white)
    → Finds found (λ board. IsBoard board × (board.size ≡ size) × (board.black ≡ black) × (line ≡ stones_line White board.white))
white_found size black white line (Some board) extent small e found = rw found.1 ((extent, found.0), refl, refl, e)
white_found size black white line None extent small e found = λ board is.
    let whites : white ≡ board.white =
    stones_injective White white board.white small (white_small board.size board.black board.white is.0.0 is.0.1) (sym e ∙ is.3) in
    found (rw (sym is.1, sym is.2, whites) is.0.1)
