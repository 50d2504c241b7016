-- Texts whose lines have no LF in them: where bytes go wrong as such a text, and that a text of the grammar goes wrong
-- nowhere.
use Rattle.std.proofs.Common.{◌≡◌, ◌≢◌, ℕ, ◌+◌, List, [], ◌∷◌, ◌++◌, length, sym, ap, ◌∙◌, subst, append_assoc}
use Rattle.std.proofs.lemmas.List.{append-nil}
use Rattle.hx_lex.specs.Marks.{Lacks, IsCut}
use Rattle.hx_lex.proofs.Cuts.{cut_same, Lacks-append_mark}
use Rattle.hx_text.specs.Grammars.{text_of, Begins, IsFaultyLine}
use Rattle.hx_text.proofs.Cuts.{AllLack, AllLack-front, text_of-push, Lacks-middle, ended-some, Agree, Second_goes_on, First_goes_on, agree}

-- the same bytes, with one line more read
pub one_line_on : (before : List (List ℕ)) (rest text line later : List ℕ) → IsCut 10 rest text later → text ≡ line
    → text_of (before ++ line ∷ []) ++ later ≡ text_of before ++ rest
one_line_on before rest text line later cut is =
    text_of-push before line later ∙ ap (λ (l : List ℕ). text_of before ++ (l ++ 10 ∷ later)) (sym is)
    ∙ ap (λ (t : List ℕ). text_of before ++ t) (sym cut.1)

module _ (grammar : List (List ℕ) → Type 0) (lack : (lines : List (List ℕ)) → grammar lines → AllLack lines) where
  -- the next line is missing or is not ended
  abbrev pub missing_is_faulty : (input : List ℕ) (before : List (List ℕ)) (rest : List ℕ) (line : ℕ) → input ≡ text_of before ++ rest
      → line ≡ length before + 1 → Begins grammar before → (grammar before → ⊥) → Lacks 10 rest → IsFaultyLine grammar input line
  missing_is_faulty input before rest line parts place begins partial lacks = record {
    before = before;
    rest = rest;
    parts = parts;
    place = place;
    right = begins;
    wrong = λ next more e b. Lacks-append_mark 10 next more (subst (Lacks 10) e lacks);
    not_whole = λ e are. partial are;
  }

  -- the next line is not right
  abbrev pub wrong_is_faulty : (input : List ℕ) (before : List (List ℕ)) (rest text later : List ℕ) (line : ℕ)
      → input ≡ text_of before ++ rest → line ≡ length before + 1 → Begins grammar before → IsCut 10 rest text later
      → (Begins grammar (before ++ text ∷ []) → ⊥) → IsFaultyLine grammar input line
  wrong_is_faulty input before rest text later line parts place begins cut other = record {
    before = before;
    rest = rest;
    parts = parts;
    place = place;
    right = begins;
    wrong = λ next more e b.
        let lacks : Lacks 10 next = Lacks-middle before next b.0 (lack ((before ++ next ∷ []) ++ b.0) b.1) in
        let same : next ≡ text = cut_same 10 next text more later lacks cut.0 (sym e ∙ cut.1) in
        other (subst (λ (l : List ℕ). Begins grammar (before ++ l ∷ [])) same b);
    not_whole = λ e are. ended-some text later (sym cut.1 ∙ e);
  }

  -- no line may follow
  abbrev pub surplus_is_faulty : (input : List ℕ) (before : List (List ℕ)) (rest : List ℕ) (line : ℕ) → input ≡ text_of before ++ rest
      → line ≡ length before + 1 → Begins grammar before → rest ≢ []
      → ((next : List ℕ) → Begins grammar (before ++ next ∷ []) → ⊥) → IsFaultyLine grammar input line
  surplus_is_faulty input before rest line parts place begins some none = record {
    before = before;
    rest = rest;
    parts = parts;
    place = place;
    right = begins;
    wrong = λ next more e b. none next b;
    not_whole = λ e are. some e;
  }

  pub begun_lack : (lines : List (List ℕ)) → Begins grammar lines → AllLack lines
  begun_lack lines begins = AllLack-front lines begins.0 (lack (lines ++ begins.0) begins.1)

  -- the lines of a text and those before a fault do not agree
  fault_parts : (lines before : List (List ℕ)) (rest : List ℕ) → grammar lines → Agree lines before [] rest
      → ((next more : List ℕ) → rest ≡ next ++ 10 ∷ more → Begins grammar (before ++ next ∷ []) → ⊥)
      → (rest ≡ [] → grammar before → ⊥) → ⊥
  unfolding text_of
  fault_parts lines before rest are (Second_goes_on [] is left) wrong not_whole =
      not_whole (sym left) (subst grammar (sym (is ∙ append-nil lines)) are)
  fault_parts lines before rest are (Second_goes_on (next ∷ more) is left) wrong not_whole =
      absurd (ended-some next (text_of more ++ rest) (sym (append_assoc next (10 ∷ text_of more) rest) ∙ sym left))
  fault_parts lines before rest are (First_goes_on [] is left) wrong not_whole =
      not_whole left (subst grammar (is ∙ append-nil before) are)
  fault_parts lines before rest are (First_goes_on (next ∷ more) is left) wrong not_whole =
      wrong next (text_of more) (left ∙ append-nil (next ++ 10 ∷ text_of more))
      (more, subst grammar (is ∙ sym (append_assoc before (next ∷ []) more)) are)

  -- a text of the grammar has no faulty line
  pub text_not_faulty : (lines : List (List ℕ)) (bytes : List ℕ) (line : ℕ) → grammar lines → bytes ≡ text_of lines
      → IsFaultyLine grammar bytes line → ⊥
  text_not_faulty lines bytes line are e fault =
      fault_parts lines fault.before fault.rest are
      (agree lines fault.before [] fault.rest (lack lines are) (begun_lack fault.before fault.right)
      (append-nil (text_of lines) ∙ sym e ∙ fault.parts)) fault.wrong fault.not_whole
