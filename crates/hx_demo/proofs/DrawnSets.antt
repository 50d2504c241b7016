-- The set of the cells in a list: its members are of the list, and where the list has no cell twice they are as many.
use Rattle.std.proofs.Common.{◌≡◌, ℕ, suc, ◌<◌, true, false, List, [], ◌∷◌, ◌++◌, length, refl, sym, ap, ◌∙◌, inl, inr, ⊎_elim}
use Rattle.std.proofs.lemmas.Bool.{false≢true, false_from_ne_true}
use Rattle.hx_board.specs.Sets.{has, insert, count_below}
use Rattle.hx_board.proofs.SetLaws.{insert-swap, has-insert_cases, has-insert_same, has-empty, remove-insert}
use Rattle.hx_board.proofs.Tallies.{count_below-remove}
use Rattle.hx_demo.specs.DrawnPositions.{set_of}
use Rattle.hx_demo.proofs.DrawnLists.{IsIn, AreDistinct}

pub set_of-push : (cells : List ℕ) (cell : ℕ) → set_of (cells ++ cell ∷ []) ≡ insert (set_of cells) cell
set_of-push [] cell = refl
set_of-push (first ∷ cells) cell = ap (λ (set : ℕ). insert set first) (set_of-push cells cell) ∙ insert-swap (set_of cells) cell first

pub set_of-in : (cells : List ℕ) (n : ℕ) → has (set_of cells) n ≡ true → IsIn n cells
set_of-in [] n h = false≢true (sym (has-empty n) ∙ h)
set_of-in (cell ∷ cells) n h = ⊎_elim inl (λ k. inr (set_of-in cells n k)) (has-insert_cases (set_of cells) cell n h)

pub set_of-lacks : (cells : List ℕ) (n : ℕ) → (IsIn n cells → ⊥) → has (set_of cells) n ≡ false
set_of-lacks cells n not_in = false_from_ne_true _ (λ h. not_in (set_of-in cells n h))

no_member-count : count_below 128 0 ≡ 0
unfolding count_below has
no_member-count = refl

pub count-set_of : (cells : List ℕ) → AreDistinct cells → ((n : ℕ) → IsIn n cells → n < 128) → count_below 128 (set_of cells) ≡ length cells
count-set_of [] distinct small = no_member-count
count-set_of (cell ∷ cells) distinct small =
    count_below-remove 128 (insert (set_of cells) cell) cell (has-insert_same (set_of cells) cell) (small cell (inl refl))
    ∙ ap suc (ap (count_below 128) (remove-insert (set_of cells) cell (set_of-lacks cells cell distinct.0))
    ∙ count-set_of cells distinct.1 (λ n h. small n (inr h)))
