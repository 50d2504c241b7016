-- How the table of a survey is spelled.
use Rattle.std.specs.Prelude.{ℕ, zero, suc, ◌-◌, ◌*◌, List, [], ◌∷◌, ◌++◌, codes}
use Rattle.hx_board.specs.declared.colours.Colour.{Colour}
use Rattle.hx_board.specs.declared.colours.Colour.TheVariants.{Black, White}
use Rattle.hx_board.specs.Sets.{count_below}
use Rattle.hx_board.specs.Cells.{Extent, index_of}
use Rattle.hx_survey.specs.Surveys.{winner_at}
use Rattle.hx_answers.specs.Texts.{numbered_text, counted_text}

-- `b` or `w`
abbrev pub letter_of : Colour → ℕ
letter_of Black = 98
letter_of White = 119

-- the line of the board's size
abbrev pub survey_line : Extent → List ℕ
survey_line size = numbered_text (codes "survey ") size.rows ++ counted_text (codes " ") size.cols

-- who wins after the openings on the first cells of a row, a letter each; the set has those cells that Black wins
unfoldable pub letters : ℕ → ℕ → ℕ → List ℕ
letters black row zero = []
letters black row (suc col) = letters black row col ++ letter_of (winner_at black (index_of row col)) ∷ []

-- the line of a row
abbrev pub row_line : ℕ → ℕ → ℕ → List ℕ
row_line black cols row = letters black row cols ++ 10 ∷ []

-- the lines of the first rows
unfoldable pub row_lines : ℕ → ℕ → ℕ → List ℕ
row_lines black cols zero = []
row_lines black cols (suc row) = row_lines black cols row ++ row_line black cols row

-- how many openings Black wins, and how many White, who wins the others
abbrev pub counts_line : Extent → ℕ → List ℕ
counts_line size black =
    numbered_text (codes "black ") (count_below 128 black)
    ++ counted_text (codes " white ") (size.rows * size.cols - count_below 128 black)

-- the whole text
abbrev pub table_text : Extent → ℕ → List ℕ
table_text size black = survey_line size ++ row_lines black size.cols size.rows ++ counts_line size black
