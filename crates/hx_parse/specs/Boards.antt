-- The lines of a board behind a title.
use Rattle.std.specs.Prelude.{◌≡◌, ℕ, ◌≤◌, List, [], ◌∷◌}
use Rattle.hx_board.specs.declared.colours.Colour.TheVariants.{Black, White}
use Rattle.hx_board.specs.Positions.{Board, IsBoard}
use Rattle.hx_text.specs.Grammars.{IsFaultyLine}
use Rattle.hx_text.specs.PositionTexts.{size_line, stones_line}

-- the title, the size, and the stones of each player
abbrev pub titled_board : List ℕ → Board → List (List ℕ)
titled_board title board =
    title ∷ size_line board.size ∷ stones_line Black board.black ∷ stones_line White board.white ∷ []

-- the title and the lines of some board
pub record AreBoardLines (title : List ℕ) (lines : List (List ℕ)) : Type 0 where
  pub board : Board
  pub is_board : IsBoard board
  pub same : lines ≡ titled_board title board

-- the first of these four lines that is not of the grammar in its place
pub record IsBoardFault (title bytes : List ℕ) (line : ℕ) : Type 0 where
  pub fault : IsFaultyLine (AreBoardLines title) bytes line
  pub early : line ≤ 4
