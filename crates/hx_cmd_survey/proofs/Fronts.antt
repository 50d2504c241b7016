-- A text that is written piece by piece, where each front of it is the one before and a piece.
use Rattle.std.proofs.Common.{◌≡◌, ℕ, zero, suc, ◌+◌, ◌-◌, ◌<◌, List, [], ◌++◌, sym, ap, ◌∙◌, subst, append_assoc, append-nil, arith}
use Rattle.std.specs.Prelude.{Option}
use Rattle.hx_io.specs.Sinks.{append, TakesFront}
use Rattle.hx_io.proofs.SinkLaws.{append-then, TakesFront-append, TakesFront-then}

module _ (front piece : ℕ → List ℕ) (next : (n : ℕ) → front (n + 1) ≡ front n ++ piece n) where
  -- a later front begins with an earlier one
  later_front : (n more : ℕ) → (rest : List ℕ) × (front (n + more) ≡ front n ++ rest)
  later_front n zero = ([], ap front (omega arith) ∙ sym (append-nil (front n)))
  later_front n (suc more) =
      let before = later_front n more in
      let one : n + suc more ≡ (n + more) + 1 = omega arith in (
        before.0 ++ piece (n + more),
        ap front one ∙ next (n + more) ∙ ap (λ (l : List ℕ). l ++ piece (n + more)) before.1
            ∙ append_assoc (front n) before.0 (piece (n + more)),
      )

  -- one more piece was written
  pub one_more : (old between new : Option (List ℕ)) (n : ℕ) → between ≡ append old (front n) → new ≡ append between (piece n)
      → new ≡ append old (front (n + 1))
  one_more old between new n out then = append-then old between new (front n) (piece n) out then ∙ ap (append old) (sym (next n))

  -- the writing of a piece was cut short
  pub cut_short : (old between new : Option (List ℕ)) (n all : ℕ) → n < all → between ≡ append old (front n)
      → TakesFront between new (piece n) → TakesFront old new (front all)
  cut_short old between new n all less out cut =
      let rest = later_front (n + 1) (all - (n + 1)) in
      let count : (n + 1) + (all - (n + 1)) ≡ all = omega (arith, less) in
      let whole : (front n ++ piece n) ++ rest.0 ≡ front all =
      ap (λ (l : List ℕ). l ++ rest.0) (sym (next n)) ∙ sym rest.1 ∙ ap front count in
      subst (TakesFront old new) whole
      (TakesFront-append old new (front n ++ piece n) rest.0 (TakesFront-then old between new (front n) (piece n) out cut))
