-- The three ways in which the first faulty line of a tree's text is found: it is missing or has no LF, it is not right,
-- or no line may follow those before it.
use Rattle.std.proofs.Common.{◌≡◌, ◌≢◌, ℕ, ◌+◌, List, [], ◌∷◌, ◌++◌, length, refl}
use Rattle.hx_lex.specs.Marks.{Lacks}
use Rattle.hx_text.specs.Grammars.{text_of, Begins, IsFaultyLine}
use Rattle.hx_text.specs.TreeTexts.{AreTreeLines}
use Rattle.hx_text.proofs.LineGrammars.{missing_is_faulty, wrong_is_faulty, surplus_is_faulty}
use Rattle.hx_text.proofs.TreeLacks.{AllLack-tree_lines}

-- the next line is missing or is not ended
abbrev pub missing : (input : List ℕ) (before : List (List ℕ)) (rest : List ℕ) (line : ℕ) → input ≡ text_of before ++ rest
    → line ≡ length before + 1 → Begins AreTreeLines before → (AreTreeLines before → ⊥) → Lacks 10 rest
    → IsFaultyLine AreTreeLines input line
missing input before rest line parts place begins partial lacks =
    missing_is_faulty AreTreeLines AllLack-tree_lines input before rest line parts place begins partial lacks

-- the next line is not right
abbrev pub wrong_line : (input : List ℕ) (before : List (List ℕ)) (text later : List ℕ) (line : ℕ)
    → input ≡ text_of before ++ (text ++ 10 ∷ later) → line ≡ length before + 1 → Begins AreTreeLines before → Lacks 10 text
    → (Begins AreTreeLines (before ++ text ∷ []) → ⊥) → IsFaultyLine AreTreeLines input line
wrong_line input before text later line parts place begins lacks other =
    wrong_is_faulty AreTreeLines AllLack-tree_lines input before (text ++ 10 ∷ later) text later line parts place begins (lacks, refl) other

-- no line may follow
abbrev pub surplus : (input : List ℕ) (before : List (List ℕ)) (rest : List ℕ) (line : ℕ) → input ≡ text_of before ++ rest
    → line ≡ length before + 1 → Begins AreTreeLines before → rest ≢ []
    → ((next : List ℕ) → Begins AreTreeLines (before ++ next ∷ []) → ⊥) → IsFaultyLine AreTreeLines input line
surplus input before rest line parts place begins some none =
    surplus_is_faulty AreTreeLines AllLack-tree_lines input before rest line parts place begins some none
