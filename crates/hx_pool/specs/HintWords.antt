-- How many words of hints are of use.
use Rattle.std.specs.Prelude.{ℕ, ◌*◌, ◌^◌, if◌then◌else◌, min, nat_le}
use Rattle.hx_pool.specs.declared.hints.TheConstants.{WORDS_OF_UNIT, MANY_UNITS, MANY_WORDS, MOST_WORDS}

-- the most words for a budget
abbrev pub most_words_of : ℕ → ℕ
most_words_of budget = if nat_le budget MANY_UNITS then MANY_WORDS else MOST_WORDS

-- how many positions can come, with either player to move, where so many cells are empty: each of them stays empty, or
-- gets a stone of either player
abbrev pub positions_of : ℕ → ℕ
positions_of empties = 2 * 3 ^ empties

-- eight words for each unit, but not more than positions that can come, and not more than the most
abbrev pub words_of_use : ℕ → ℕ → ℕ
words_of_use budget empties = min (WORDS_OF_UNIT * budget) (min (positions_of empties) (most_words_of budget))
