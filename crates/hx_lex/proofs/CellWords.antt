-- The word of a cell is the letter of its column and the number of its row, so what is read from the letter and from
-- the number is read from the word.
use Rattle.std.proofs.Common.{Some, None, ◌∷◌, ◌≡◌, ℕ, ◌+◌, ◌≤◌, List, sym, ap, ◌∙◌, arith, Option}
use Rattle.std.specs.Fmt.{decimal}
use Rattle.std.proofs.lemmas.Fmt.{decimal_injective}
use Rattle.hx_board.specs.Cells.{Extent, OnBoard, row_of, col_of}
use Rattle.hx_board.specs.Finds.{Finds}
use Rattle.hx_lex.specs.Words.{Reads, IsNumber, cell_word}

pub cell_reads : (size : Extent) (word : List ℕ) (letter : ℕ) (digits : List ℕ) (row : ℕ) (found : Option ℕ) → size.rows ≤ 11
    → word ≡ letter ∷ digits → Reads decimal IsNumber digits (Some row)
    → Finds found (λ cell. OnBoard size cell × (letter ≡ 97 + col_of cell) × (row ≡ row_of cell + 1))
    → Reads cell_word (OnBoard size) word found
cell_reads size word letter digits row (Some cell) few parts number some =
    (some.0, parts ∙ ap (λ (l : ℕ). l ∷ digits) some.1 ∙ ap (λ (d : List ℕ). (97 + col_of cell) ∷ d) (number.1 ∙ ap decimal some.2))
cell_reads size word letter digits row None few parts number none = λ cell on e.
    let same : letter ∷ decimal row ≡ (97 + col_of cell) ∷ decimal (row_of cell + 1) = ap (λ (d : List ℕ). letter ∷ d) (sym number.1)
    ∙ sym parts ∙ e in
    let first : letter ≡ 97 + col_of cell = cc in
    let later : decimal row ≡ decimal (row_of cell + 1) = cc in
    none cell (on, first, decimal_injective row (row_of cell + 1) (omega (arith, number.0)) (omega (arith, on.row)) later)
