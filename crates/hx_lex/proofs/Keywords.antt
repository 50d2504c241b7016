-- The first word of some bytes is a given one exactly where they begin with it, and then end or have a mark next.
use Rattle.std.proofs.Common.{◌≡◌, ◌≢◌, ℕ, List, [], ◌∷◌, ◌++◌, length, length-append, ◌≤◌, take, drop, refl, sym, ap, ◌∙◌, ◌⊎◌, inl, inr}
use Rattle.std.proofs.Common.{arith, Bool, true, false, eqb, cond}
use Rattle.std.specs.Prelude.{nat_eq}
use Rattle.std.specs.Cmp.Lexicographic.{pointwise, same_text, other_text}
use Rattle.std.proofs.lemmas.Bool.{false≢true, eqb-true}
use Rattle.std.proofs.lemmas.List.{append-nil, take-append-drop}
use Rattle.std.proofs.Math.Seq.{take-append_seam, drop-append_seam}
use Rattle.hx_lex.specs.Words.{in_first, split_at_marks, words_left}
use Rattle.hx_lex.specs.Marks.{Lacks}
use Rattle.hx_lex.proofs.Splits.{split_at_marks-cut, split_at_marks-lacks, split_at_marks-some}

record BeginsWith (mark : ℕ) (bytes word : List ℕ) : Type 0 where
  after : List ℕ
  parts : bytes ≡ word ++ after
  ended : (after ≡ []) ⊎ ((later : List ℕ) × (after ≡ mark ∷ later))

by_parts : (mark byte : ℕ) (bytes word : List ℕ) (words parts : List (List ℕ)) → split_at_marks mark bytes ≡ parts
    → in_first byte parts ≡ word ∷ words
    → ((first : List ℕ) (rest : List (List ℕ)) → split_at_marks mark bytes ≡ first ∷ rest → BeginsWith mark bytes first)
    → BeginsWith mark (byte ∷ bytes) word
by_parts mark byte bytes word words [] is e before = absurd (split_at_marks-some mark bytes is)
by_parts mark byte bytes word words (part ∷ parts) is e before =
    let found = before part parts is in
    let first : byte ∷ part ≡ word = cc in
    record {
      after = found.after;
      parts = ap (λ (t : List ℕ). byte ∷ t) found.parts ∙ ap (λ (t : List ℕ). t ++ found.after) first;
      ended = found.ended;
    }

by_test : (mark byte : ℕ) (bytes word : List ℕ) (words : List (List ℕ)) (test : Bool) → eqb byte mark ≡ test
    → cond test ([] ∷ split_at_marks mark bytes) (in_first byte (split_at_marks mark bytes)) ≡ word ∷ words
    → ((first : List ℕ) (rest : List (List ℕ)) → split_at_marks mark bytes ≡ first ∷ rest → BeginsWith mark bytes first)
    → BeginsWith mark (byte ∷ bytes) word
by_test mark byte bytes word words true is e before =
    let none : [] ≡ word = cc in
    record {
      after = byte ∷ bytes;
      parts = ap (λ (t : List ℕ). t ++ byte ∷ bytes) none;
      ended = inr (bytes, ap (λ (b : ℕ). b ∷ bytes) (eqb-true byte mark is));
    }
by_test mark byte bytes word words false is e before = by_parts mark byte bytes word words (split_at_marks mark bytes) refl e before

first_word : (mark : ℕ) (bytes word : List ℕ) (words : List (List ℕ)) → split_at_marks mark bytes ≡ word ∷ words
    → BeginsWith mark bytes word
unfolding split_at_marks
first_word mark [] word words e =
    let none : [] ≡ word = cc in
    record { after = []; parts = ap (λ (t : List ℕ). t ++ []) none; ended = inl refl }
first_word mark (byte ∷ bytes) word words e =
    by_test mark byte bytes word words (eqb byte mark) refl e (λ first rest f. first_word mark bytes first rest f)

-- the first word that a cursor has left stands in front
pub front_is_first : (more : Bool) (bytes word : List ℕ) (words : List (List ℕ)) → words_left more bytes ≡ word ∷ words
    → take (length word) bytes ≡ word
front_is_first true bytes word words e =
    let found = first_word 32 bytes word words e in ap (take (length word)) found.parts ∙ take-append_seam word found.after
front_is_first false bytes word words e = cc

-- and there is room for it
pub first_fits : (more : Bool) (bytes word : List ℕ) (words : List (List ℕ)) → words_left more bytes ≡ word ∷ words
    → length word ≤ length bytes
first_fits true bytes word words e =
    let found = first_word 32 bytes word words e in rw found.parts (omega (arith, length-append word found.after))
first_fits false bytes word words e = cc

-- the bytes begin with the word
pub prefix_parts : (bytes word after : List ℕ) → pointwise nat_eq (take (length word) bytes) word ≡ true → after ≡ drop (length word) bytes
    → bytes ≡ word ++ after
prefix_parts bytes word after same is =
    sym (take-append-drop (length word) bytes) ∙ ap (λ (t : List ℕ). t ++ drop (length word) bytes) (same_text _ _ (sym same))
    ∙ ap (λ (t : List ℕ). word ++ t) (sym is)

-- they do not
pub no_prefix : (mark : ℕ) (bytes word : List ℕ) (words : List (List ℕ)) → pointwise nat_eq (take (length word) bytes) word ≡ false
    → split_at_marks mark bytes ≡ word ∷ words → ⊥
no_prefix mark bytes word words other e =
    let found = first_word mark bytes word words e in
    other_text _ _ (sym other) (ap (take (length word)) found.parts ∙ take-append_seam word found.after)

-- the word is the last one
pub prefix_alone : (mark : ℕ) (bytes word after : List ℕ) → Lacks mark word → bytes ≡ word ++ after → length after ≡ 0
    → split_at_marks mark bytes ≡ word ∷ []
prefix_alone mark bytes word [] lacks is none = ap (split_at_marks mark) (is ∙ append-nil word) ∙ split_at_marks-lacks mark word lacks
prefix_alone mark bytes word (byte ∷ after) lacks is none = absurd (omega arith)

-- the word is not the last one
pub prefix_then : (mark : ℕ) (bytes word later : List ℕ) → Lacks mark word → bytes ≡ word ++ mark ∷ later
    → split_at_marks mark bytes ≡ word ∷ split_at_marks mark later
prefix_then mark bytes word later lacks is = ap (split_at_marks mark) is ∙ split_at_marks-cut mark word later lacks

no_end : (mark next : ℕ) (after later : List ℕ) → next ≢ mark → after ≡ next ∷ later
    → (after ≡ []) ⊎ ((rest : List ℕ) × (after ≡ mark ∷ rest)) → ⊥
no_end mark next after later other is (inl none) = cc
no_end mark next after later other is (inr (rest, e)) = let same : next ≡ mark = cc in other same

-- the word goes on in the bytes
pub prefix_goes_on : (mark next : ℕ) (bytes word later : List ℕ) (words : List (List ℕ)) → next ≢ mark → bytes ≡ word ++ next ∷ later
    → split_at_marks mark bytes ≡ word ∷ words → ⊥
prefix_goes_on mark next bytes word later words other is e =
    let found = first_word mark bytes word words e in
    no_end mark next found.after later other
    (sym (drop-append_seam word found.after) ∙ ap (drop (length word)) (sym found.parts ∙ is)
    ∙ drop-append_seam word (next ∷ later)) found.ended

-- a cursor that has a word left
pub words_left-some_more : (more : Bool) (rest : List ℕ) → more ≡ true → words_left more rest ≡ split_at_marks 32 rest
words_left-some_more true rest some = refl
words_left-some_more false rest some = absurd (false≢true some)
