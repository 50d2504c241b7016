-- The letters of a row, and the lines of rows, one after the other.
use Rattle.std.proofs.Common.{◌≡◌, ℕ, ◌+◌, List, [], ◌∷◌, ◌++◌, refl, ap, ◌∙◌, add-one}
use Rattle.hx_board.specs.declared.colours.Colour.{Colour}
use Rattle.hx_board.specs.Cells.{index_of}
use Rattle.hx_survey.specs.Surveys.{winner_at}
use Rattle.hx_cmd_survey.specs.Texts.{letter_of, letters, row_line, row_lines}

-- the letter of a cell
abbrev pub letter_at : ℕ → ℕ → ℕ → List ℕ
letter_at black row col = letter_of (winner_at black (index_of row col)) ∷ []

-- the letter that was found for a cell is the one that is due there
pub is_letter : (black row col : ℕ) {cell byte : ℕ} {winner : Colour} → cell ≡ index_of row col → winner ≡ winner_at black cell
    → byte ≡ letter_of winner → byte ∷ [] ≡ letter_at black row col
is_letter black row col at is letter =
    ap (λ (b : ℕ). b ∷ []) (letter ∙ ap letter_of (is ∙ ap (winner_at black) at))

pub letters-none : (black row : ℕ) → letters black row 0 ≡ []
unfolding letters
letters-none black row = refl

pub letters-next : (black row col : ℕ) → letters black row (col + 1) ≡ letters black row col ++ letter_at black row col
unfolding letters
letters-next black row col = ap (λ (n : ℕ). letters black row n) (add-one col)

pub row_lines-none : (black cols : ℕ) → row_lines black cols 0 ≡ []
unfolding row_lines
row_lines-none black cols = refl

pub row_lines-next : (black cols row : ℕ) → row_lines black cols (row + 1) ≡ row_lines black cols row ++ row_line black cols row
unfolding row_lines
row_lines-next black cols row = ap (λ (n : ℕ). row_lines black cols n) (add-one row)
