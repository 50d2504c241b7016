-- The words of the generator: those that come after some words are the words of the generator so many words further.
use Rattle.std.proofs.Common.{◌≡◌, ℕ, zero, suc, ◌+◌, List, [], ◌∷◌, ◌++◌, length, refl, ap, zero-add, suc-add}
use Rattle.rand_core.specs.Steps.{first_words}
use Rattle.rand_pcg.specs.Lcg.{Lcg, state_after}
use Rattle.rand_pcg.specs.Pcg.{pcg32}
use Rattle.hx_demo.specs.Generators.{next_words, words_later}

pub length-next_words : (count : ℕ) (generator : Lcg) → length (next_words count generator) ≡ count
unfolding first_words
length-next_words zero generator = refl
length-next_words (suc count) generator = ap suc (length-next_words count (pcg32 generator).1)

pub words_later-add : (count more : ℕ) (generator : Lcg)
    → words_later (count + more) generator ≡ words_later more (words_later count generator)
unfolding state_after
words_later-add zero more generator = rw zero-add refl
words_later-add (suc count) more generator = rw suc-add (words_later-add count more (pcg32 generator).1)

pub next_words-add : (count more : ℕ) (generator : Lcg) → next_words (count + more) generator ≡ next_words count generator
    ++ next_words more (words_later count generator)
unfolding first_words state_after
next_words-add zero more generator = rw zero-add refl
next_words-add (suc count) more generator =
    rw suc-add (ap (λ (words : List ℕ). (pcg32 generator).0 ∷ words) (next_words-add count more (pcg32 generator).1))

-- no word, and one word more
pub words_later-none : (generator : Lcg) → words_later 0 generator ≡ generator
unfolding state_after
words_later-none generator = refl

pub next_words-none : (generator : Lcg) → next_words 0 generator ≡ []
unfolding first_words
next_words-none generator = refl

pub words_later-one : (count : ℕ) (generator : Lcg) → words_later (count + 1) generator ≡ (pcg32 (words_later count generator)).1
unfolding state_after
words_later-one count generator = words_later-add count 1 generator

pub next_words-one : (count : ℕ) (generator : Lcg) → next_words (count + 1) generator ≡ next_words count generator
    ++ (pcg32 (words_later count generator)).0 ∷ []
unfolding first_words
next_words-one count generator = next_words-add count 1 generator
