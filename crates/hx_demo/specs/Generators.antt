-- The generator that draws. What a step of it gives and leaves, number for number, stands in rand_pcg.
use Rattle.std.specs.Prelude.{ℕ, List}
use Rattle.rand_core.specs.Steps.{first_words}
use Rattle.rand_pcg.specs.Lcg.{Lcg, started, increment_of, advance}
use Rattle.rand_pcg.specs.Pcg.{multiplier_64, pcg32}

-- the generator of a seed, on stream 54
abbrev pub generator_of : ℕ → Lcg
generator_of seed = started 64 multiplier_64 seed (increment_of 64 54)

-- the next words that a generator gives
abbrev pub next_words : ℕ → Lcg → List ℕ
next_words count generator = first_words pcg32 count generator

-- the generator after it gave so many words
abbrev pub words_later : ℕ → Lcg → Lcg
words_later count generator = advance 64 multiplier_64 count generator
