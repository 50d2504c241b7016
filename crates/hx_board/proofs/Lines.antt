-- The lines of cells along the sides: the cells that have no cell above them, below them, to their left or to their
-- right.
use Rattle.std.proofs.Common.{◌≡◌, ℕ, ◌+◌, ◌-◌, ◌/◌, ◌%◌, ◌<◌, ◌≤◌, true, false, ◌&&◌, sym, ◌∙◌, arith, ⊎_elim, ◌↔◌, leb, ltb}
use Rattle.std.proofs.lemmas.Bool.{false≢true, cases_lt, leb-true, le-leb, ltb-true, lt-ltb, and_from, false_from_ne_true}
use Rattle.hx_board.specs.Sets.{has, difference}
use Rattle.hx_board.specs.Cells.{Extent, IsExtent, OnBoard, row_of, col_of}
use Rattle.hx_board.proofs.SetLaws.{has-difference_left, has-difference_right, has-difference_both, first_of_both, second_of_both}
use Rattle.hx_board.proofs.CellLaws.{on_board-small}

module _ (size : Extent) (extent : IsExtent size.rows size.cols) where
  -- all columns but the last
  pub left-is : (left : ℕ) → ((n : ℕ) → has left n ≡ (ltb (n / 11) size.rows && ltb (n % 11) (size.cols - 1)))
      → (n : ℕ) → (has left n ≡ true) ↔ (OnBoard size n × (col_of n + 1 < size.cols))
  left-is left is n = (
    (λ h.
        let row : n / 11 < size.rows = ltb-true _ _ (first_of_both _ (ltb (n % 11) (size.cols - 1)) (sym (is n) ∙ h)) in
        let col : n % 11 < size.cols - 1 = ltb-true _ _ (second_of_both (ltb (n / 11) size.rows) _ (sym (is n) ∙ h)) in
        (record { row = row; col = omega arith }, omega arith)),
    (λ w.
        let row : n / 11 < size.rows = w.0.row in
        let col : n % 11 + 1 < size.cols = w.1 in
        is n ∙ and_from _ _ (lt-ltb _ _ row) (lt-ltb _ _ (omega arith))),
  )

  module _ (all : ℕ) (is_all : (n : ℕ) → (has all n ≡ true) ↔ OnBoard size n) where
    small : (n : ℕ) → OnBoard size n → n < 121
    small n on = on_board-small size n extent on

    outside : (set n : ℕ) → has set n ≡ false → has set n ≡ true → ⊥
    outside set n none h = false≢true (sym none ∙ h)

    pub top-is : (below : ℕ) → ((n : ℕ) → n < 128 → has below n ≡ (leb 11 n && has all (n - 11)))
        → (n : ℕ) → (has (difference all below) n ≡ true) ↔ (OnBoard size n × (row_of n ≡ 0))
    top-is below is n = (
      (λ h.
          let on : OnBoard size n = (is_all n).0 (has-difference_left all below n h) in
          let low : n < 121 = small n on in
          let less : n < 128 = omega arith in
          let row : n / 11 < size.rows = on.row in
          let col : n % 11 < size.cols = on.col in (
            on,
            ⊎_elim (λ k. omega arith)
                (λ k. absurd (outside below n (has-difference_right all below n h)
                (is n less ∙ and_from _ _ (le-leb 11 n k) ((is_all (n - 11)).1 (record { row = omega arith; col = omega arith })))))
                (cases_lt n 11),
          )),
      (λ w.
          let low : n < 121 = small n w.0 in
          let less : n < 128 = omega arith in
          let row : n / 11 ≡ 0 = w.1 in
          has-difference_both all below n ((is_all n).1 w.0)
          (false_from_ne_true _
          (λ k. let high : 11 ≤ n = leb-true 11 n (first_of_both _ (has all (n - 11)) (sym (is n less) ∙ k)) in absurd (omega arith)))),
    )

    pub bottom-is : (above : ℕ) → ((n : ℕ) → has above n ≡ has all (n + 11))
        → (n : ℕ) → (has (difference all above) n ≡ true) ↔ (OnBoard size n × (row_of n + 1 ≡ size.rows))
    bottom-is above is n = (
      (λ h.
          let on : OnBoard size n = (is_all n).0 (has-difference_left all above n h) in
          let row : n / 11 < size.rows = on.row in
          let col : n % 11 < size.cols = on.col in (
            on,
            ⊎_elim
                (λ k. absurd (outside above n (has-difference_right all above n h)
                (is n ∙ (is_all (n + 11)).1 (record { row = omega arith; col = omega arith }))))
                (λ k. omega arith)
                (cases_lt (n / 11 + 1) size.rows),
          )),
      (λ w.
          let row : n / 11 + 1 ≡ size.rows = w.1 in
          has-difference_both all above n ((is_all n).1 w.0)
          (false_from_ne_true _
          (λ k. let beyond : (n + 11) / 11 < size.rows = ((is_all (n + 11)).0 (sym (is n) ∙ k)).row in absurd (omega arith)))),
    )

    module _ (left : ℕ) (is_left : (n : ℕ) → (has left n ≡ true) ↔ (OnBoard size n × (col_of n + 1 < size.cols))) where
      pub rightmost-is : (n : ℕ) → (has (difference all left) n ≡ true) ↔ (OnBoard size n × (col_of n + 1 ≡ size.cols))
      rightmost-is n = (
        (λ h.
            let on : OnBoard size n = (is_all n).0 (has-difference_left all left n h) in
            let col : n % 11 < size.cols = on.col in (
              on,
              ⊎_elim
                  (λ k. absurd (outside left n (has-difference_right all left n h) ((is_left n).1 (on, k))))
                  (λ k. omega arith)
                  (cases_lt (n % 11 + 1) size.cols),
            )),
        (λ w.
            let col : n % 11 + 1 ≡ size.cols = w.1 in
            has-difference_both all left n ((is_all n).1 w.0)
            (false_from_ne_true _ (λ k. let less : n % 11 + 1 < size.cols = ((is_left n).0 k).1 in absurd (omega arith)))),
      )

      pub leftmost-is : (right : ℕ) → ((n : ℕ) → n < 128 → has right n ≡ (leb 1 n && has left (n - 1)))
          → (n : ℕ) → (has (difference all right) n ≡ true) ↔ (OnBoard size n × (col_of n ≡ 0))
      leftmost-is right is n = (
        (λ h.
            let on : OnBoard size n = (is_all n).0 (has-difference_left all right n h) in
            let low : n < 121 = small n on in
            let less : n < 128 = omega arith in
            let row : n / 11 < size.rows = on.row in
            let col : n % 11 < size.cols = on.col in (
              on,
              ⊎_elim (λ k. omega arith)
                  (λ k. absurd (outside right n (has-difference_right all right n h)
                  (is n less ∙ and_from _ _ (le-leb 1 n (omega arith))
                  ((is_left (n - 1)).1 (record { row = omega arith; col = omega arith }, omega arith)))))
                  (cases_lt (n % 11) 1),
            )),
        (λ w.
            let low : n < 121 = small n w.0 in
            let less : n < 128 = omega arith in
            let bound : size.cols ≤ 11 = extent.3 in
            let col : n % 11 ≡ 0 = w.1 in
            has-difference_both all right n ((is_all n).1 w.0)
            (false_from_ne_true _ (λ k.
            let t : (leb 1 n && has left (n - 1)) ≡ true = sym (is n less) ∙ k in
            let high : 1 ≤ n = leb-true 1 n (first_of_both _ (has left (n - 1)) t) in
            let before : (n - 1) % 11 + 1 < size.cols = ((is_left (n - 1)).0 (second_of_both (leb 1 n) _ t)).1 in
            absurd (omega arith)))),
      )
