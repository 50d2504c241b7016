-- The first columns, of which there are at most eleven: each number of columns and each cell is tried.
use Rattle.std.proofs.Common.{◌≡◌, ℕ, ◌-◌, ◌*◌, ◌/◌, ◌%◌, ◌^◌, ◌<◌, ◌≤◌, Bool, true, ◌&&◌, ltb, leb, refl, ◌∙◌, arith}
use Rattle.std.proofs.lemmas.Bool.{agree_below, agree_below_at}
use Rattle.std.proofs.lemmas.Bool.Decides.{nat_tests}
use Rattle.hx_board.specs.declared.sizes.TheConstants.{FIRST_COLUMN}
use Rattle.hx_board.specs.Sets.{has, intersection}
use Rattle.hx_board.proofs.SetLaws.{has-intersection}

abbrev columns : ℕ → ℕ
columns cols = FIRST_COLUMN * 2 ^ cols % 2 ^ 128 - FIRST_COLUMN

-- whether the set of so many columns has each cell of them, and no other
abbrev are_columns : ℕ → Bool
are_columns cols = agree_below (has (columns cols)) (λ n. ltb (n % 11) cols) 121

each_tried : agree_below are_columns (λ _. true) 12 ≡ true
unfolding has
each_tried = refl

pub has-columns : (cols : ℕ) → cols ≤ 11 → (n : ℕ) → n < 121 → has (columns cols) n ≡ ltb (n % 11) cols
has-columns cols few n small =
    agree_below_at (has (columns cols)) (λ k. ltb (k % 11) cols) 121 n
    (agree_below_at are_columns (λ _. true) 12 cols each_tried (omega arith)) small

-- the first rows and columns, by their sets
in_both : (rows n : ℕ) (row col here : Bool) → rows ≤ 11 → row ≡ (leb 0 n && ltb n (11 * rows)) → (n < 121 → here ≡ col)
    → (row && here) ≡ (ltb (n / 11) rows && col)
in_both rows n row col here few is_row is_col = grind (arith, nat_tests)

pub has-block : (first_rows first_columns rows cols : ℕ) → rows ≤ 11
    → ((n : ℕ) → has first_rows n ≡ (leb 0 n && ltb n (11 * rows)))
    → ((n : ℕ) → n < 121 → has first_columns n ≡ ltb (n % 11) cols)
    → (n : ℕ) → has (intersection first_rows first_columns) n ≡ (ltb (n / 11) rows && ltb (n % 11) cols)
has-block first_rows first_columns rows cols few are_rows are_columns n =
    has-intersection first_rows first_columns n
    ∙ in_both rows n (has first_rows n) (ltb (n % 11) cols) (has first_columns n) few (are_rows n) (are_columns n)
