-- The position that sixteen words draw: its stones are those of the first eight words and, from what these leave, of
-- the next eight. Put one by one, each of them comes to an empty cell.
use Rattle.std.proofs.Common.{◌≡◌, ℕ, suc, ◌+◌, ◌<◌, ◌≤◌, List, [], ◌∷◌, ◌++◌, length, take, drop, refl, sym, ap, ◌∙◌, inl, inr, arith}
use Rattle.std.proofs.Common.{lit≤, subst}
use Rattle.std.proofs.lemmas.List.{take_at, drop_at, length-append}
use Rattle.std.specs.Option.{SomeIff, IsSome}
use Rattle.std.specs.declared.option.Option.{Option}
use Rattle.std.specs.declared.option.Option.TheVariants.{None, Some}
use Rattle.hx_board.specs.declared.colours.Colour.{Colour}
use Rattle.hx_board.specs.declared.colours.Colour.TheVariants.{Black, White}
use Rattle.hx_board.specs.Cells.{OnBoard}
use Rattle.hx_board.specs.Sets.{has, count_below}
use Rattle.hx_board.specs.Positions.{Board, IsBoard, IsPosition, IsEmpty, put}
use Rattle.hx_board.specs.Counts.{is_empty, empty_below, empty_count}
use Rattle.hx_board.proofs.CellLaws.{on_board-small}
use Rattle.hx_board.proofs.PositionLaws.{empty-is_position, same_board}
use Rattle.hx_board.proofs.StoneLaws.{board-put}
use Rattle.hx_board.proofs.EmptyCells.{empty_count-put}
use Rattle.rand_pcg.specs.Lcg.{Lcg}
use Rattle.hx_demo.specs.Generators.{next_words, words_later}
use Rattle.hx_demo.specs.DrawnPositions.{board_size, cells_in_order, drawn_from, set_of, drawn_position}
use Rattle.hx_demo.specs.CellsLeft.{left_after}
use Rattle.hx_demo.proofs.WordLaws.{next_words-add, length-next_words}
use Rattle.hx_demo.proofs.DrawnLists.{IsIn, AreDistinct, in-left, in-right, distinct-left, distinct-right, drawn_from-append}
use Rattle.hx_demo.proofs.DrawnLists.{length-drawn_from, length-left_after, drawn-in, drawn-distinct}
use Rattle.hx_demo.proofs.BoardCells.{in_order-on_board, in_order-distinct}
use Rattle.hx_demo.proofs.DrawnSets.{set_of-lacks, count-set_of}

-- ---- stones one by one

-- the board with these black and white stones
abbrev pub with_stones : List ℕ → List ℕ → Board
with_stones black white = record { size = board_size; black = set_of black; white = set_of white }

cell_is_empty : (black white : List ℕ) (cell : ℕ) → OnBoard board_size cell → (IsIn cell (black ++ white) → ⊥)
    → IsEmpty (with_stones black white) cell
cell_is_empty black white cell on not_in = record {
  on_board = on;
  no_black = set_of-lacks black cell (λ h. not_in (in-left cell black white h));
  no_white = set_of-lacks white cell (λ h. not_in (in-right cell black white h));
}

no_stone-count : empty_count (with_stones [] []) ≡ 25
unfolding empty_count empty_below is_empty has
no_stone-count = refl

-- a board with so many stones, and the rest of its cells empty
pub record HasStones (board : Board) (count : ℕ) : Type 0 where
  pub valid : IsBoard board
  pub empty : empty_count board + count ≡ 25

one_more : (board : Board) (colour : Colour) (cell count : ℕ) → HasStones board count → IsEmpty board cell
    → HasStones (put board colour cell) (suc count)
one_more board colour cell count before is_empty =
    let less = empty_count-put board colour cell before.valid is_empty in
    let rest = before.empty in
    record { valid = board-put board colour cell before.valid is_empty; empty = omega arith }

pub stones-put : (black white : List ℕ) → AreDistinct (black ++ white) → ((n : ℕ) → IsIn n (black ++ white) → OnBoard board_size n)
    → HasStones (with_stones black white) (length (black ++ white))
stones-put [] [] distinct on = record {
  valid = ((lit≤ tt, lit≤ tt, lit≤ tt, lit≤ tt), empty-is_position board_size);
  empty = rw no_stone-count refl;
}
stones-put [] (cell ∷ white) distinct on =
    one_more (with_stones [] white) White cell (length white) (stones-put [] white distinct.1 (λ n h. on n (inr h)))
    (cell_is_empty [] white cell (on cell (inl refl)) distinct.0)
stones-put (cell ∷ black) white distinct on =
    one_more (with_stones black white) Black cell (length (black ++ white)) (stones-put black white distinct.1 (λ n h. on n (inr h)))
    (cell_is_empty black white cell (on cell (inl refl)) distinct.0)

-- ---- the two parts of sixteen words

-- the cells of the black and of the white stones
abbrev pub black_cells : Lcg → List ℕ
black_cells generator = drawn_from cells_in_order (next_words 8 generator)

abbrev pub white_cells : Lcg → List ℕ
white_cells generator = drawn_from (left_after cells_in_order (next_words 8 generator)) (next_words 8 (words_later 8 generator))

drawn-parts : (generator : Lcg) → drawn_from cells_in_order (next_words 16 generator) ≡ black_cells generator ++ white_cells generator
drawn-parts generator =
    ap (drawn_from cells_in_order) (next_words-add 8 8 generator)
    ∙ drawn_from-append cells_in_order (next_words 8 generator) (next_words 8 (words_later 8 generator))

length-black_cells : (generator : Lcg) → length (black_cells generator) ≡ 8
length-black_cells generator = length-drawn_from cells_in_order (next_words 8 generator) ∙ length-next_words 8 generator

length-white_cells : (generator : Lcg) → length (white_cells generator) ≡ 8
length-white_cells generator =
    length-drawn_from (left_after cells_in_order (next_words 8 generator)) (next_words 8 (words_later 8 generator))
    ∙ length-next_words 8 (words_later 8 generator)

pub drawn_position-parts : (generator : Lcg)
    → drawn_position (next_words 16 generator) ≡ with_stones (black_cells generator) (white_cells generator)
drawn_position-parts generator =
    let black : List ℕ = black_cells generator in
    let white : List ℕ = white_cells generator in
    ap (λ (cells : List ℕ). with_stones (take 8 cells) (drop 8 cells)) (drawn-parts generator)
    ∙ ap (λ (cells : List ℕ). with_stones cells (drop 8 (black ++ white))) (take_at black white 8 (length-black_cells generator))
    ∙ ap (with_stones black) (drop_at black white 8 (length-black_cells generator))

-- sixteen words are no more than there are cells
words-enough : (generator : Lcg) → length (next_words 16 generator) ≤ length cells_in_order
words-enough generator = rw (length-next_words 16 generator) (lit≤ tt)

drawn_cells-distinct : (generator : Lcg) → AreDistinct (black_cells generator ++ white_cells generator)
drawn_cells-distinct generator =
    rw (drawn-parts generator) at (drawn-distinct cells_in_order (next_words 16 generator) (words-enough generator) in_order-distinct)

drawn_cells-on_board : (generator : Lcg) (n : ℕ) → IsIn n (black_cells generator ++ white_cells generator) → OnBoard board_size n
drawn_cells-on_board generator n h =
    in_order-on_board n (drawn-in n cells_in_order (next_words 16 generator) (words-enough generator) (rw (drawn-parts generator) h))

drawn_cells-small : (generator : Lcg) (n : ℕ) → IsIn n (black_cells generator ++ white_cells generator) → n < 128
drawn_cells-small generator n h =
    let small : n < 121 = on_board-small board_size n (lit≤ tt, lit≤ tt, lit≤ tt, lit≤ tt) (drawn_cells-on_board generator n h) in
    omega arith

-- ---- what the two parts are

-- two parts of eight words each, one after the other
pub two_parts : (generator further : Lcg) (board : Board) (cells left : List ℕ) → board.size ≡ board_size → cells ≡ cells_in_order
    → board.black ≡ set_of (drawn_from cells (next_words 8 generator)) → left ≡ left_after cells (next_words 8 generator)
    → further ≡ words_later 8 generator → board.white ≡ set_of (drawn_from left (next_words 8 further))
    → board ≡ with_stones (black_cells generator) (white_cells generator)
two_parts generator further board cells left size_is cells_are black_is left_is further_is white_is =
    let black : board.black ≡ set_of (black_cells generator) = rw cells_are at black_is in
    let white : board.white ≡ set_of (white_cells generator) = rw (left_is, cells_are, further_is) at white_is in
    same_board board (with_stones (black_cells generator) (white_cells generator)) size_is black white

pub drawn-stones : (generator : Lcg)
    → HasStones (with_stones (black_cells generator) (white_cells generator)) (length (black_cells generator ++ white_cells generator))
drawn-stones generator =
    stones-put (black_cells generator) (white_cells generator) (drawn_cells-distinct generator) (drawn_cells-on_board generator)

pub drawn-is_position : (generator : Lcg) → IsPosition board_size (set_of (black_cells generator)) (set_of (white_cells generator))
drawn-is_position generator = (drawn-stones generator).valid.1

pub drawn-empty : (generator : Lcg) → empty_count (with_stones (black_cells generator) (white_cells generator)) ≡ 9
drawn-empty generator =
    let stones = (drawn-stones generator).empty in
    let black = length-black_cells generator in
    let white = length-white_cells generator in
    omega (arith, length-append (black_cells generator) (white_cells generator))

pub drawn-black : (generator : Lcg) → count_below 128 (set_of (black_cells generator)) ≡ 8
drawn-black generator =
    let black : List ℕ = black_cells generator in
    let white : List ℕ = white_cells generator in
    count-set_of black (distinct-left black white (drawn_cells-distinct generator))
    (λ n h. drawn_cells-small generator n (in-left n black white h))
    ∙ length-black_cells generator

pub drawn-white : (generator : Lcg) → count_below 128 (set_of (white_cells generator)) ≡ 8
drawn-white generator =
    let black : List ℕ = black_cells generator in
    let white : List ℕ = white_cells generator in
    count-set_of white (distinct-right black white (drawn_cells-distinct generator))
    (λ n h. drawn_cells-small generator n (in-right n black white h))
    ∙ length-white_cells generator

-- ---- the position that is found

-- after the black stones there are cells enough for the white ones
pub cells-left : (generator : Lcg) (cells left : List ℕ) → cells ≡ cells_in_order → left ≡ left_after cells (next_words 8 generator)
    → 8 ≤ length left
cells-left generator cells left cells_are left_is =
    let words : length (next_words 8 generator) ≡ 8 = length-next_words 8 generator in
    let count : length cells ≡ 25 = ap length cells_are in
    let rest = length-left_after cells (next_words 8 generator) (omega arith) in
    let same = ap length left_is in omega arith

pub found-some : (found : Option Board) (board : Board) (generator : Lcg)
    → board ≡ with_stones (black_cells generator) (white_cells generator)
    → SomeIff found (IsPosition board.size board.black board.white) board → IsSome found
found-some None board generator same iff =
    absurd (iff (let P : Board → Type 0 = λ b. IsPosition b.size b.black b.white in subst P (sym same) (drawn-is_position generator)))
found-some (Some found) board generator same iff = refl
