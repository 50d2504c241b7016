-- The cell of a set that is in neither of two others, where the set is both and a cell.
use Rattle.std.proofs.Common.{◌≡◌, ℕ, true, false, sym, ◌∙◌, ap, subst, ⊎_elim}
use Rattle.std.proofs.lemmas.Bool.{false≢true, false_from_ne_true}
use Rattle.hx_board.specs.Cells.{Extent, OnBoard, IsLeastOn}
use Rattle.hx_board.specs.Sets.{has, insert, union, difference}
use Rattle.hx_board.proofs.SetLaws.{has-insert_same, has-insert_cases, has-union_cases, has-difference_left, has-difference_right}
use Rattle.hx_board.proofs.SetLaws.{has-difference_both}
use Rattle.hx_play.specs.Kept.{IsOver}

module _ (size : Extent) (whole first second cell : ℕ) (over : IsOver size whole first second cell) where
  outside : has (union first second) cell ≡ false
  outside = false_from_ne_true (has (union first second) cell) (λ h.
      ⊎_elim (λ k. false≢true (sym over.not_first ∙ k)) (λ k. false≢true (sym over.not_second ∙ k)) (has-union_cases first second cell h))

  left_over : has (difference whole (union first second)) cell ≡ true
  left_over =
      has-difference_both whole (union first second) cell
      (ap (λ (s : ℕ). has s cell) over.whole_is ∙ has-insert_same (union first second) cell) outside

  only : (n : ℕ) → has (difference whole (union first second)) n ≡ true → n ≡ cell
  only n h =
      let in_whole : has (insert (union first second) cell) n ≡ true =
      sym (ap (λ (s : ℕ). has s n) over.whole_is) ∙ has-difference_left whole (union first second) n h in
      ⊎_elim (λ e. e) (λ k. absurd (false≢true (sym (has-difference_right whole (union first second) n h) ∙ k)))
      (has-insert_cases (union first second) cell n in_whole)

  module _ (both rest : ℕ) (both_is : both ≡ union first second) (rest_is : rest ≡ difference whole both) where
    rest_same : rest ≡ difference whole (union first second)
    rest_same = rest_is ∙ ap (λ (s : ℕ). difference whole s) both_is

    pub between-none : ((n : ℕ) → OnBoard size n → has rest n ≡ false) → ⊥
    between-none none = false≢true (sym (none cell over.on_board) ∙ (ap (λ (s : ℕ). has s cell) rest_same ∙ left_over))

    pub between-is : (found : ℕ) → IsLeastOn size rest found → IsOver size whole first second found
    between-is found least =
        let same : found ≡ cell = only found (sym (ap (λ (s : ℕ). has s found) rest_same) ∙ least.member) in
        let P : ℕ → Type 0 = λ n. IsOver size whole first second n in
        subst P (sym same) over

-- there is one such cell
pub over-one : (size : Extent) (whole first second one other : ℕ) → IsOver size whole first second one
    → IsOver size whole first second other → one ≡ other
over-one size whole first second one other over over_too =
    only size whole first second other over_too one (left_over size whole first second one over)
