-- Bytes have one faulty line at most, for each grammar whose lines have no LF. Two ways to cut the bytes into lines and
-- a rest agree, so if the lines before two faults differ, the one goes on where the other has its fault.
use Rattle.std.proofs.Common.{◌≡◌, ℕ, List, [], ◌∷◌, ◌++◌, length, refl, sym, ap, ◌∙◌, subst, arith, append_assoc}
use Rattle.std.proofs.lemmas.List.{append-nil}
use Rattle.hx_text.specs.Grammars.{text_of, Begins, IsFaultyLine}
use Rattle.hx_text.specs.PositionTexts.{ArePositionLines}
use Rattle.hx_text.specs.TreeTexts.{AreTreeLines}
use Rattle.hx_text.proofs.Cuts.{AllLack, Agree, Second_goes_on, First_goes_on, agree}
use Rattle.hx_text.proofs.LineGrammars.{begun_lack}
use Rattle.hx_text.proofs.TreeLacks.{AllLack-tree_lines}
use Rattle.hx_text.proofs.WholePositions.{AllLack-position}

module _ (grammar : List (List ℕ) → Type 0) (lack : (lines : List (List ℕ)) → grammar lines → AllLack lines) (bytes : List ℕ) where
  -- the lines before a fault do not go on with lines that begin a text
  pub no_more : (line : ℕ) (fault : IsFaultyLine grammar bytes line) (before more : List (List ℕ)) (rest : List ℕ) → before ≡ fault.before
      ++ more
      → fault.rest ≡ text_of more ++ rest → Begins grammar before → more ≡ []
  unfolding text_of
  no_more line fault before [] rest is left begins = refl
  no_more line fault before (next ∷ more) rest is left begins =
      absurd (fault.wrong next (text_of more ++ rest) (left ∙ append_assoc next (10 ∷ text_of more) rest) (
        more ++ begins.0,
        subst grammar
            (ap (λ (ls : List (List ℕ)). ls ++ begins.0) (is ∙ sym (append_assoc fault.before (next ∷ []) more))
            ∙ append_assoc (fault.before ++ next ∷ []) more begins.0) begins.1,
      ))

  same_before : (a b : ℕ) (first : IsFaultyLine grammar bytes a) (second : IsFaultyLine grammar bytes b)
      → Agree first.before second.before first.rest second.rest → length first.before ≡ length second.before
  same_before a b first second (Second_goes_on more is left) =
      let none : more ≡ [] = no_more a first second.before more second.rest is left second.right in
      sym (ap length (is ∙ ap (λ (ls : List (List ℕ)). first.before ++ ls) none ∙ append-nil first.before))
  same_before a b first second (First_goes_on more is left) =
      let none : more ≡ [] = no_more b second first.before more first.rest is left first.right in
      ap length (is ∙ ap (λ (ls : List (List ℕ)). second.before ++ ls) none ∙ append-nil second.before)

  pub one_fault : (a b : ℕ) → IsFaultyLine grammar bytes a → IsFaultyLine grammar bytes b → a ≡ b
  one_fault a b first second =
      let same = same_before a b first second
      (agree first.before second.before first.rest second.rest (begun_lack grammar lack first.before first.right)
      (begun_lack grammar lack second.before second.right) (sym first.parts ∙ second.parts)) in
      omega (arith, same, first.place, second.place)

pub one_tree_fault : (bytes : List ℕ) (a b : ℕ) → IsFaultyLine AreTreeLines bytes a → IsFaultyLine AreTreeLines bytes b → a ≡ b
one_tree_fault bytes a b first second = one_fault AreTreeLines AllLack-tree_lines bytes a b first second

pub one_position_fault : (bytes : List ℕ) (a b : ℕ) → IsFaultyLine ArePositionLines bytes a → IsFaultyLine ArePositionLines bytes b → a ≡ b
one_position_fault bytes a b first second = one_fault ArePositionLines AllLack-position bytes a b first second
