-- The positions that a seed draws, one after the other.
use Rattle.std.specs.Prelude.{ℕ, zero, suc, List, [], ◌∷◌}
use Rattle.rand_pcg.specs.Lcg.{Lcg}
use Rattle.hx_board.specs.Positions.{Board}
use Rattle.hx_demo.specs.Generators.{generator_of, next_words, words_later}
use Rattle.hx_demo.specs.DrawnPositions.{drawn_position}

-- so many positions, each drawn from where the one before it left the generator
unfoldable pub positions_from : ℕ → Lcg → List Board
positions_from zero generator = []
positions_from (suc count) generator =
    drawn_position (next_words 16 generator) ∷ positions_from count (words_later 16 generator)

-- the first positions that a seed draws
abbrev pub first_positions : ℕ → ℕ → List Board
first_positions count seed = positions_from count (generator_of seed)
