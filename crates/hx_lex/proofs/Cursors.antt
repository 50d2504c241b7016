-- What a cursor over the words of a line has left, and what it says of a line that its words were taken one after the
-- other: the words that were taken are the first words of the line.
use Rattle.std.proofs.Common.{◌≡◌, ◌≢◌, ℕ, List, [], ◌∷◌, sym, ap, ◌∙◌, Bool, true, false}
use Rattle.std.specs.Option.{MatchOption, IfNone, is_some}
use Rattle.std.specs.declared.option.Option.{Option}
use Rattle.std.specs.declared.option.Option.TheVariants.{None, Some}
use Rattle.std.proofs.lemmas.Bool.{false≢true}
use Rattle.hx_lex.specs.Words.{Reads, Takes, split_at_marks, words_left}
use Rattle.hx_lex.specs.Marks.{Lacks, IsCut}
use Rattle.hx_lex.proofs.Splits.{split_at_marks-cut, split_at_marks-lacks, split_at_marks-some}

pub words_left-cut : (more : Bool) (rest word later : List ℕ) → more ≡ true → IsCut 32 rest word later
    → words_left more rest ≡ word ∷ words_left more later
words_left-cut true rest word later some cut = ap (split_at_marks 32) cut.1 ∙ split_at_marks-cut 32 word later cut.0
words_left-cut false rest word later some _ = absurd (false≢true some)

pub words_left-lacks : (more : Bool) (rest : List ℕ) → more ≡ true → Lacks 32 rest → words_left more rest ≡ rest ∷ []
words_left-lacks true rest some lacks = split_at_marks-lacks 32 rest lacks
words_left-lacks false rest some _ = absurd (false≢true some)

pub words_left-some : (more : Bool) (rest : List ℕ) → more ≡ true → words_left more rest ≡ [] → ⊥
words_left-some true rest some e = split_at_marks-some 32 rest e
words_left-some false rest some _ = absurd (false≢true some)

-- the next word is taken, and a reader of words reads it
pub takes_by_word : {V : Type 0} (spelling : V → List ℕ) (Fits : V → Type 0) (read : Option V) (word : List ℕ) (old new : List (List ℕ))
    → old ≡ word ∷ new → Reads spelling Fits word read → Takes spelling Fits old read new
takes_by_word spelling Fits (Some value) word old new e reads = (reads.0, e ∙ ap (λ (first : List ℕ). first ∷ new) reads.1)
takes_by_word spelling Fits None word old new e reads = λ value rest fits f. reads value fits cc

pub takes_at_end : {V : Type 0} (spelling : V → List ℕ) (Fits : V → Type 0) (old new : List (List ℕ)) → old ≡ []
    → Takes spelling Fits old None new
takes_at_end spelling Fits old new e = λ value rest fits f. cc

-- the same words in two ways
pub first_same : {a b : List ℕ} {old new rest : List (List ℕ)} → old ≡ a ∷ new → old ≡ b ∷ rest → a ≡ b
first_same {a} {b} {old} {new} {rest} e f = cc

pub rest_same : {a b : List ℕ} {old new rest : List (List ℕ)} → old ≡ a ∷ new → old ≡ b ∷ rest → new ≡ rest
rest_same {a} {b} {old} {new} {rest} e f = cc

-- a word, and then these words
pub word_then : {word : List ℕ} {old new rest : List (List ℕ)} → old ≡ word ∷ new → new ≡ rest → old ≡ word ∷ rest
word_then {word} {old} {new} {rest} e f = cc

-- whether a word is left, from what the look for the end found
pub ends_here : {words : List (List ℕ)} (found : Option (Unit {0})) → MatchOption found (words ≢ []) (λ _. words ≡ [])
    → true ≡ is_some found → words ≡ []
ends_here (Some done) is test = is
ends_here None is test = absurd (false≢true (sym test))

pub goes_on_here : {words : List (List ℕ)} (found : Option (Unit {0})) → MatchOption found (words ≢ []) (λ _. words ≡ [])
    → false ≡ is_some found → words ≢ []
goes_on_here (Some done) is test = absurd (false≢true test)
goes_on_here None is test = is

-- a given word that was taken
pub word_taken : {word : List ℕ} {old new : List (List ℕ)} (found : Option (Unit {0})) → Takes (λ _. word) (λ _. Unit {0}) old found new
    → true ≡ is_some found → old ≡ word ∷ new
word_taken (Some done) takes test = takes.1
word_taken None takes test = absurd (false≢true (sym test))

-- a given word that does not stand there
pub word_missing : {word : List ℕ} {old : List (List ℕ)} (new : List (List ℕ)) (found : Option (Unit {0}))
    → Takes (λ _. word) (λ _. Unit {0}) old found new
    → false ≡ is_some found → (rest : List (List ℕ)) → old ≡ word ∷ rest → ⊥
word_missing new (Some done) takes test = absurd (false≢true test)
word_missing new None takes test = λ rest e. takes tt rest tt e

-- and then the words are as they were
pub words_kept : {old new : List (List ℕ)} (found : Option (Unit {0})) → IfNone found (new ≡ old) → false ≡ is_some found → new ≡ old
words_kept (Some done) same test = absurd (false≢true test)
words_kept None same test = same
