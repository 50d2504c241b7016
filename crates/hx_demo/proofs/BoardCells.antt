-- The 25 cells of a drawn board: what stands at each place, that each is on the board, and that none stands there
-- twice. Each is tried.
use Rattle.std.proofs.Common.{◌≡◌, ℕ, ◌+◌, ◌/◌, ◌%◌, ◌<◌, Bool, true, ◌&&◌, not, eqb, ltb, eqb-true, eq-eqb, List, [], ◌∷◌, ◌++◌, length}
use Rattle.std.proofs.Common.{take, get_or, refl, sym, ap, ◌∙◌, subst, inl, inr, arith}
use Rattle.std.proofs.lemmas.List.{take_more, length-take-le}
use Rattle.std.proofs.lemmas.Bool.{agree_below_at, false≢true, ltb-true}
use Rattle.hx_board.specs.Cells.{OnBoard, index_of}
use Rattle.hx_board.proofs.SetLaws.{first_of_both, second_of_both}
use Rattle.hx_demo.specs.DrawnPositions.{board_size, cells_in_order}
use Rattle.hx_demo.proofs.DrawnLists.{IsIn, AreDistinct}

-- ---- what stands at each place

abbrev is_at : ℕ → Bool
is_at place = eqb (get_or cells_in_order place 0) (index_of (place / 5) (place % 5))

pub cell_at : (place : ℕ) → place < 25 → get_or cells_in_order place 0 ≡ index_of (place / 5) (place % 5)
cell_at place low = eqb-true _ _ (agree_below_at is_at (λ _. true) 25 place refl low)

-- the cells that stand before a place, and one more
pub length-cells_so_far : (items : List ℕ) (place : ℕ) → place < 25 → items ≡ take place cells_in_order → length items < 25
length-cells_so_far items place low before = rw (before, length-take-le place cells_in_order (omega arith)) low

pub cells_so_far-more : (items : List ℕ) (place cell : ℕ) → place < 25 → items ≡ take place cells_in_order
    → cell ≡ index_of (place / 5) (place % 5)
    → items ++ cell ∷ [] ≡ take (place + 1) cells_in_order
cells_so_far-more items place cell low before is = rw (before, is, ← cell_at place low) (sym (take_more cells_in_order place 0 low))

-- ---- each is on the board

abbrev are_on_board : List ℕ → Bool
are_on_board [] = true
are_on_board (cell ∷ cells) = ltb (cell / 11) 5 && ltb (cell % 11) 5 && are_on_board cells

on_board-by_tests : (cells : List ℕ) (cell : ℕ) → are_on_board cells ≡ true → IsIn cell cells → OnBoard board_size cell
on_board-by_tests [] cell pass h = absurd h
on_board-by_tests (first ∷ cells) cell pass (inl same) =
    let both = first_of_both (ltb (first / 11) 5 && ltb (first % 11) 5) (are_on_board cells) pass in
    let here : OnBoard board_size first =
    record { row = ltb-true _ _ (first_of_both _ _ both); col = ltb-true _ _ (second_of_both _ _ both) } in
    let P : ℕ → Type 0 = OnBoard board_size in subst P (sym same) here
on_board-by_tests (first ∷ cells) cell pass (inr h) = on_board-by_tests cells cell (second_of_both _ (are_on_board cells) pass) h

pub in_order-on_board : (cell : ℕ) → IsIn cell cells_in_order → OnBoard board_size cell
in_order-on_board cell = on_board-by_tests cells_in_order cell refl

-- ---- none stands there twice

abbrev lacks : ℕ → List ℕ → Bool
lacks n [] = true
lacks n (x ∷ xs) = not (eqb n x) && lacks n xs

abbrev are_distinct : List ℕ → Bool
are_distinct [] = true
are_distinct (x ∷ xs) = lacks x xs && are_distinct xs

not_in-by_test : (n : ℕ) (xs : List ℕ) → lacks n xs ≡ true → IsIn n xs → ⊥
not_in-by_test n [] pass h = h
not_in-by_test n (x ∷ xs) pass (inl same) = false≢true (sym (ap not (eq-eqb n x same)) ∙ first_of_both (not (eqb n x)) (lacks n xs) pass)
not_in-by_test n (x ∷ xs) pass (inr h) = not_in-by_test n xs (second_of_both (not (eqb n x)) (lacks n xs) pass) h

distinct-by_test : (xs : List ℕ) → are_distinct xs ≡ true → AreDistinct xs
distinct-by_test [] pass = tt
distinct-by_test (x ∷ xs) pass = (
  not_in-by_test x xs (first_of_both (lacks x xs) (are_distinct xs) pass),
  distinct-by_test xs (second_of_both (lacks x xs) (are_distinct xs) pass),
)

pub in_order-distinct : AreDistinct cells_in_order
in_order-distinct = distinct-by_test cells_in_order refl
