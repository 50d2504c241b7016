-- The table of those openings that were gone through.
use Rattle.std.proofs.Common.{◌≡◌, ℕ, Bool, true, false, refl, sym, ◌∙◌, subst, ⊎_elim, if◌then◌else◌}
use Rattle.std.proofs.lemmas.Bool.{false≢true, false_from_ne_true, cases_eq}
use Rattle.hx_board.specs.declared.colours.Colour.{Colour}
use Rattle.hx_board.specs.declared.colours.Colour.TheVariants.{Black, White}
use Rattle.hx_board.specs.Sets.{has, insert, remove}
use Rattle.hx_board.specs.Cells.{Extent, OnBoard, IsLeastOn}
use Rattle.hx_board.proofs.SetLaws.{has-empty, has-insert_cases, has-insert_same, has-insert_other, same_test}
use Rattle.hx_board.proofs.SetLaws.{has-remove_before, has-remove_other, removed}
use Rattle.hx_openings.specs.Openings.{WinsOpening}
use Rattle.hx_survey.specs.Surveys.{winner_at}
use Rattle.hx_survey.specs.Readings.{marked}

-- the set has none of the cells that are left, and else it is the table's
pub record IsTableBut (size : Extent) (left black : ℕ) : Type 0 where
  pub inside : (cell : ℕ) → has black cell ≡ true → OnBoard size cell
  pub none_left : (cell : ℕ) → has left cell ≡ true → has black cell ≡ false
  pub winners : (cell : ℕ) → OnBoard size cell → has left cell ≡ false → WinsOpening size cell (winner_at black cell)

pub table-begun : (size : Extent) (left : ℕ) → ((cell : ℕ) → OnBoard size cell → has left cell ≡ true) → IsTableBut size left 0
table-begun size left all = record {
  inside = λ cell h. absurd (false≢true (sym (has-empty cell) ∙ h));
  none_left = λ cell h. has-empty cell;
  winners = λ cell on gone. absurd (false≢true (sym gone ∙ all cell on));
}

-- whom a set names by whether it has the cell
named : (black cell : ℕ) (b : Bool) → has black cell ≡ b → winner_at black cell ≡ (if b then Black else White)
named black cell b e = rw e refl

module _ (size : Extent) (left black cell : ℕ) (least : IsLeastOn size left cell) (table : IsTableBut size left black) where
  gone : (n : ℕ) → has (remove left cell) n ≡ true → n ≡ cell → ⊥
  gone n h e = false≢true (sym (removed left cell) ∙ subst (λ (k : ℕ). has (remove left cell) k ≡ true) e h)

  earlier : (n : ℕ) → (n ≡ cell → ⊥) → has (remove left cell) n ≡ false → has left n ≡ false
  earlier n other h = false_from_ne_true _ (λ k. false≢true (sym h ∙ has-remove_other left cell n other k))

  -- a set that names this winner of the cell, and of each other cell the winner of before
  more : (new : ℕ) (winner : Colour) → WinsOpening size cell winner → winner_at new cell ≡ winner
      → ((n : ℕ) → (n ≡ cell → ⊥) → has new n ≡ has black n)
      → ((n : ℕ) → has new n ≡ true → OnBoard size n) → IsTableBut size (remove left cell) new
  more new winner wins named_so same inside = record {
    inside = inside;
    none_left = λ n h. same n (gone n h) ∙ table.none_left n (has-remove_before left cell n h);
    winners = λ n on h. ⊎_elim
        (λ (e : n ≡ cell). subst (λ (k : ℕ). WinsOpening size k (winner_at new k)) (sym e)
        (subst (λ (player : Colour). WinsOpening size cell player) (sym named_so) wins))
        (λ (other : n ≡ cell → ⊥). subst (λ (player : Colour). WinsOpening size n player)
        (sym (named new n (has black n) (same n other)))
        (table.winners n on (earlier n other h)))
        (cases_eq n cell);
  }

  unchanged : (n : ℕ) → (n ≡ cell → ⊥) → has (insert black cell) n ≡ has black n
  unchanged n other = same_test _ _
      (λ h. ⊎_elim (λ (e : n ≡ cell). absurd (other e)) (λ (k : has black n ≡ true). k) (has-insert_cases black cell n h))
      (λ h. has-insert_other black cell n h)

  pub table-more : (winner : Colour) → WinsOpening size cell winner → IsTableBut size (remove left cell) (marked black cell winner)
  table-more Black wins = more (insert black cell) Black wins (named (insert black cell) cell true (has-insert_same black cell)) unchanged
      (λ n h. ⊎_elim (λ (e : n ≡ cell). subst (OnBoard size) (sym e) least.on_board) (λ (k : has black n ≡ true). table.inside n k)
      (has-insert_cases black cell n h))
  table-more White wins = more black White wins (named black cell false (table.none_left cell least.member)) (λ n other. refl) table.inside
