-- Lines of two words, of which the first is given and the other one a value's. The words are of high bytes, so a line
-- has these two words, and no LF in it, and tells the value.
use Rattle.std.proofs.Common.{◌≡◌, ◌≢◌, ℕ, List, [], ◌∷◌, ap, ◌∙◌, refl, arith, Option, Some, None}
use Rattle.hx_board.specs.declared.colours.Colour.{Colour}
use Rattle.hx_lex.specs.Words.{Reads, Takes, IsSet, spaced, words_in, colour_word, mask_word}
use Rattle.hx_lex.specs.Marks.{Lacks}
use Rattle.hx_lex.proofs.Cursors.{rest_same, word_then}
use Rattle.hx_lex.proofs.HighBytes.{IsHigh, IsHigh-colour_word, IsHigh-hex, IsLine-high, Lacks-high, Lacks-spaced}
use Rattle.hx_lex.proofs.Injective.{colour_injective}
use Rattle.hx_lex.proofs.Masks.{mask_injective}
use Rattle.hx_lex.proofs.Spacing.{words_in-spaced, spaced_injective, line_from_words}

pub Lacks-keyed : (keyword word : List ℕ) → IsHigh keyword → IsHigh word → Lacks 10 (spaced (keyword ∷ word ∷ []))
Lacks-keyed keyword word high_keyword high = Lacks-spaced (keyword ∷ word ∷ []) (high_keyword, (high, tt))

pub second_word_same : (keyword a b : List ℕ) → IsHigh keyword → IsHigh a → IsHigh b
    → spaced (keyword ∷ a ∷ []) ≡ spaced (keyword ∷ b ∷ []) → a ≡ b
second_word_same keyword a b high_keyword high_a high_b e =
    let words : keyword ∷ a ∷ [] ≡ keyword ∷ b ∷ [] =
    spaced_injective (keyword ∷ a ∷ []) (keyword ∷ b ∷ []) (IsLine-high keyword (a ∷ []) (high_keyword, (high_a, tt)))
    (IsLine-high keyword (b ∷ []) (high_keyword, (high_b, tt))) e in
    cc

pub keyed_colour_injective : (keyword : List ℕ) (a b : Colour) → IsHigh keyword
    → spaced (keyword ∷ colour_word a ∷ []) ≡ spaced (keyword ∷ colour_word b ∷ []) → a ≡ b
keyed_colour_injective keyword a b high e =
    colour_injective a b (second_word_same keyword (colour_word a) (colour_word b) high (IsHigh-colour_word a) (IsHigh-colour_word b) e)

pub keyed_mask_injective : (keyword : List ℕ) (a b : ℕ) → IsHigh keyword → IsSet a → IsSet b
    → spaced (keyword ∷ mask_word a ∷ []) ≡ spaced (keyword ∷ mask_word b ∷ []) → a ≡ b
keyed_mask_injective keyword a b high small few e =
    mask_injective a b small few (second_word_same keyword (mask_word a) (mask_word b) high (IsHigh-hex 32 a) (IsHigh-hex 32 b) e)

-- what a reader answers that takes the keyword, and then the value's word, which is to be the last one
module _ {V : Type 0} (spelling : V → List ℕ) (Fits : V → Type 0) (high : (value : V) → IsHigh (spelling value)) where
  abbrev ReadsKeyed : List ℕ → List ℕ → Option V → Type 0
  ReadsKeyed keyword line read = Reads (λ (value : V). spaced (keyword ∷ spelling value ∷ [])) Fits line read

  its_words : {keyword line : List ℕ} {words : List (List ℕ)} → Lacks 32 keyword → words ≡ words_in line → (value : V)
      → line ≡ spaced (keyword ∷ spelling value ∷ []) → words ≡ keyword ∷ spelling value ∷ []
  its_words {keyword} lack is value e = is
      ∙ (ap words_in e
      ∙ words_in-spaced (keyword ∷ spelling value ∷ []) (lack, (Lacks-high 32 (spelling value) (omega arith) (high value), tt)))

  pub keyword-missing : {keyword line : List ℕ} {words : List (List ℕ)} → Lacks 32 keyword → words ≡ words_in line
      → ((done : Unit {0}) (rest : List (List ℕ)) → Unit {0} → words ≡ keyword ∷ rest → ⊥) → ReadsKeyed keyword line None
  keyword-missing {keyword} lack is missing = λ value fits e. missing tt (spelling value ∷ []) tt (its_words lack is value e)

  pub keyed-read : {keyword : List ℕ} {words behind left : List (List ℕ)} (line : List ℕ) (taken read : Option V) → Lacks 32 keyword
      → words ≡ words_in line → words ≡ keyword ∷ behind → Takes spelling Fits behind taken left
      → (left ≡ [] → read ≡ taken) → (left ≢ [] → read ≡ None) → ReadsKeyed keyword line read
  keyed-read {left = []} line (Some value) read lack is first takes ended more =
      rw (ended refl) (takes.0, line_from_words is (word_then first takes.1))
  keyed-read {left = []} line None read lack is first takes ended more =
      rw (ended refl) (λ value fits e. takes value [] fits (rest_same first (its_words lack is value e)))
  keyed-read {left = word ∷ left} line (Some taken) read lack is first takes ended more =
      rw (more (λ none. cc)) (λ value fits e. more_words (rest_same takes.1 (rest_same first (its_words lack is value e))))
    where
      more_words : word ∷ left ≡ [] → ⊥
      more_words e = cc
  keyed-read {left = word ∷ left} line None read lack is first takes ended more =
      rw (more (λ none. cc)) (λ value fits e. takes value [] fits (rest_same first (its_words lack is value e)))
