-- Different values have different words: numbers, colours, cells and vertices.
use Rattle.std.proofs.Common.{◌≡◌, ℕ, ◌+◌, ◌<◌, ◌≤◌, List, ◌∷◌, get_or, refl, sym, ap, subst, arith}
use Rattle.std.specs.Prelude.{codes}
use Rattle.std.specs.Fmt.{decimal}
use Rattle.std.specs.Str.Parse.{AllDigits}
use Rattle.std.proofs.lemmas.Fmt.{decimal_injective}
use Rattle.std.proofs.lemmas.Str.Parse.{digit_from_value}
use Rattle.hx_board.specs.declared.colours.Colour.{Colour}
use Rattle.hx_board.specs.declared.colours.Colour.TheVariants.{Black, White}
use Rattle.hx_board.specs.Cells.{Extent, OnBoard, row_of, col_of}
use Rattle.hx_board.specs.declared.vertices.Vertex.{Vertex}
use Rattle.hx_board.specs.declared.vertices.Vertex.TheVariants.{Of, First, Last}
use Rattle.hx_board.specs.Graph.{IsVertex}
use Rattle.hx_lex.specs.Words.{colour_word, cell_word, IsNumber, vertex_word}
use Rattle.hx_lex.proofs.Numbers.{decimal_digits}

pub number_injective : (a b : ℕ) → IsNumber a → IsNumber b → decimal a ≡ decimal b → a ≡ b
number_injective a b small few e = decimal_injective a b (omega arith) (omega arith) e

pub colour_injective : (a b : Colour) → colour_word a ≡ colour_word b → a ≡ b
colour_injective Black Black e = refl
colour_injective White White e = refl
colour_injective Black White e = let first : 98 ≡ 119 = ap (λ (w : List ℕ). get_or w 0 0) e in absurd (omega (arith, first))
colour_injective White Black e = let first : 119 ≡ 98 = ap (λ (w : List ℕ). get_or w 0 0) e in absurd (omega (arith, first))

pub cell_injective : (size : Extent) (a b : ℕ) → size.rows ≤ 11 → OnBoard size a → OnBoard size b → cell_word a ≡ cell_word b → a ≡ b
cell_injective size a b few on_a on_b e =
    let letters : 97 + col_of a ≡ 97 + col_of b = cc in
    let numbers : decimal (row_of a + 1) ≡ decimal (row_of b + 1) = cc in
    let rows : row_of a + 1 ≡ row_of b + 1 =
    number_injective (row_of a + 1) (row_of b + 1) (omega (arith, on_a.row)) (omega (arith, on_b.row)) numbers in
    omega (arith, letters, rows)

-- the word of a cell is none of the two sides: after its letter come digits

no_digits : (n : ℕ) (letter : ℕ) (letters : List ℕ) → IsNumber n → 57 < letter → decimal n ≡ letter ∷ letters → ⊥
no_digits n letter letters small is e =
    let digits : AllDigits 10 (letter ∷ letters) = subst (AllDigits 10) e (decimal_digits n small).0 in
    absurd (omega (arith, (digit_from_value letter digits.0).1))

cell_not_first : (size : Extent) (cell : ℕ) → size.rows ≤ 11 → OnBoard size cell → cell_word cell ≡ codes "first" → ⊥
cell_not_first size cell few on e =
    let digits : decimal (row_of cell + 1) ≡ codes "irst" = cc in
    no_digits (row_of cell + 1) 105 (codes "rst") (omega (arith, on.row)) (omega arith) digits

cell_not_last : (size : Extent) (cell : ℕ) → size.rows ≤ 11 → OnBoard size cell → cell_word cell ≡ codes "last" → ⊥
cell_not_last size cell few on e =
    let digits : decimal (row_of cell + 1) ≡ codes "ast" = cc in
    no_digits (row_of cell + 1) 97 (codes "st") (omega (arith, on.row)) (omega arith) digits

first_not_last : codes "first" ≡ codes "last" → ⊥
first_not_last e = let letter : 102 ≡ 108 = ap (λ (w : List ℕ). get_or w 0 0) e in absurd (omega (arith, letter))

pub vertex_injective : (size : Extent) (a b : Vertex) → size.rows ≤ 11 → IsVertex size a → IsVertex size b
    → vertex_word a ≡ vertex_word b → a ≡ b
vertex_injective size (Of a) (Of b) few on_a on_b e = ap (λ (cell : ℕ). Of cell) (cell_injective size a b few on_a on_b e)
vertex_injective size First First few on_a on_b e = refl
vertex_injective size Last Last few on_a on_b e = refl
vertex_injective size (Of a) First few on_a on_b e = absurd (cell_not_first size a few on_a e)
vertex_injective size (Of a) Last few on_a on_b e = absurd (cell_not_last size a few on_a e)
vertex_injective size First (Of b) few on_a on_b e = absurd (cell_not_first size b few on_b (sym e))
vertex_injective size Last (Of b) few on_a on_b e = absurd (cell_not_last size b few on_b (sym e))
vertex_injective size First Last few on_a on_b e = absurd (first_not_last e)
vertex_injective size Last First few on_a on_b e = absurd (first_not_last (sym e))
