-- The text of a position and the player to move.
use Rattle.std.specs.Prelude.{◌≡◌, ℕ, List, [], ◌∷◌, codes}
use Rattle.std.specs.Fmt.{decimal}
use Rattle.hx_board.specs.declared.colours.Colour.{Colour}
use Rattle.hx_board.specs.declared.colours.Colour.TheVariants.{Black, White}
use Rattle.hx_board.specs.Cells.{Extent}
use Rattle.hx_board.specs.Positions.{Board, IsBoard}
use Rattle.hx_lex.specs.Words.{spaced, mask_word, colour_word}
use Rattle.hx_text.specs.Grammars.{text_of}

abbrev pub size_line : Extent → List ℕ
size_line size = spaced (codes "size" ∷ decimal size.rows ∷ decimal size.cols ∷ [])

-- the title, the size, the stones of each player behind the player's colour, and the player to move
abbrev pub position_lines : Board → Colour → List (List ℕ)
position_lines board mover =
    spaced (codes "hexpos" ∷ codes "1" ∷ []) ∷ size_line board.size
    ∷ spaced (colour_word Black ∷ mask_word board.black ∷ []) ∷ spaced (colour_word White ∷ mask_word board.white ∷ [])
    ∷ spaced (codes "move" ∷ colour_word mover ∷ []) ∷ []

abbrev pub position_text : Board → Colour → List ℕ
position_text board mover = text_of (position_lines board mover)

-- the lines of some position's text
pub record ArePositionLines (lines : List (List ℕ)) : Type 0 where
  pub board : Board
  pub mover : Colour
  pub is_board : IsBoard board
  pub same : lines ≡ position_lines board mover

-- ---- the lines by themselves, as a writer and a reader have them

abbrev pub position_title : List ℕ
position_title = spaced (codes "hexpos" ∷ codes "1" ∷ [])

-- the line of a player's stones
abbrev pub stones_line : Colour → ℕ → List ℕ
stones_line colour stones = spaced (colour_word colour ∷ mask_word stones ∷ [])

abbrev pub move_line : Colour → List ℕ
move_line mover = spaced (codes "move" ∷ colour_word mover ∷ [])
