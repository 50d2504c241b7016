-- A line and its words: cutting the line at its spaces and joining the words with spaces undo each other. So words
-- without a space have one line, and a line has one list of words.
use Rattle.std.proofs.Common.{◌≡◌, ℕ, List, [], ◌∷◌, refl, sym, ap, ◌∙◌, Bool, true, false, eqb, cond}
use Rattle.std.proofs.lemmas.Bool.{eqb-true}
use Rattle.hx_lex.specs.Words.{in_first, split_at_marks, words_in, spaced}
use Rattle.hx_lex.specs.Marks.{Lacks}
use Rattle.hx_lex.proofs.Splits.{split_at_marks-cut, split_at_marks-lacks, split_at_marks-some}

-- words without a space
abbrev pub AreWords : List (List ℕ) → Type 0
AreWords [] = Unit {0}
AreWords (word ∷ words) = Lacks 32 word × AreWords words

-- the words of a line: at least one
abbrev pub IsLine : List (List ℕ) → Type 0
IsLine [] = ⊥
IsLine (word ∷ words) = Lacks 32 word × AreWords words

words_in-spaced_from : (word : List ℕ) (words : List (List ℕ)) → Lacks 32 word → AreWords words
    → words_in (spaced (word ∷ words)) ≡ word ∷ words
unfolding spaced
words_in-spaced_from word [] first others = split_at_marks-lacks 32 word first
words_in-spaced_from word (next ∷ words) first others =
    split_at_marks-cut 32 word (spaced (next ∷ words)) first
    ∙ ap (λ (later : List (List ℕ)). word ∷ later) (words_in-spaced_from next words others.0 others.1)

pub words_in-spaced : (words : List (List ℕ)) → IsLine words → words_in (spaced words) ≡ words
words_in-spaced [] line = absurd line
words_in-spaced (word ∷ words) line = words_in-spaced_from word words line.0 line.1

-- two lines of the same text have the same words
pub spaced_injective : (a b : List (List ℕ)) → IsLine a → IsLine b → spaced a ≡ spaced b → a ≡ b
spaced_injective a b is_a is_b e = sym (words_in-spaced a is_a) ∙ ap words_in e ∙ words_in-spaced b is_b

spaced-in_first : (byte : ℕ) (parts : List (List ℕ)) → (parts ≡ [] → ⊥) → spaced (in_first byte parts) ≡ byte ∷ spaced parts
unfolding spaced
spaced-in_first byte [] some = absurd (some refl)
spaced-in_first byte (part ∷ []) some = refl
spaced-in_first byte (part ∷ next ∷ parts) some = refl

spaced-empty_word : (parts : List (List ℕ)) → (parts ≡ [] → ⊥) → spaced ([] ∷ parts) ≡ 32 ∷ spaced parts
unfolding spaced
spaced-empty_word [] some = absurd (some refl)
spaced-empty_word (part ∷ parts) some = refl

spaced-cond : (test : Bool) (byte : ℕ) (bytes : List ℕ) (parts : List (List ℕ)) → eqb byte 32 ≡ test → (parts ≡ [] → ⊥)
    → spaced parts ≡ bytes → spaced (cond test ([] ∷ parts) (in_first byte parts)) ≡ byte ∷ bytes
spaced-cond true byte bytes parts is some before =
    spaced-empty_word parts some ∙ ap (λ (b : ℕ). b ∷ spaced parts) (sym (eqb-true byte 32 is))
    ∙ ap (λ (bs : List ℕ). byte ∷ bs) before
spaced-cond false byte bytes parts is some before = spaced-in_first byte parts some ∙ ap (λ (bs : List ℕ). byte ∷ bs) before

pub spaced-words_in : (line : List ℕ) → spaced (words_in line) ≡ line
unfolding split_at_marks spaced
spaced-words_in [] = refl
spaced-words_in (byte ∷ bytes) =
    spaced-cond (eqb byte 32) byte bytes (words_in bytes) refl (split_at_marks-some 32 bytes) (spaced-words_in bytes)

-- a line whose words are known
pub line_from_words : {line : List ℕ} {words all : List (List ℕ)} → words ≡ words_in line → words ≡ all → line ≡ spaced all
line_from_words {line} {words} {all} e f = sym (spaced-words_in line) ∙ ap spaced (sym e ∙ f)
