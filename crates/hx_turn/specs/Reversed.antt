-- How a set is reversed, block by block. These words are for the functions inside the crate alone.
use Rattle.std.specs.Prelude.{◌≡◌, ℕ, ◌+◌, ◌-◌, ◌/◌, ◌%◌, ◌<◌, ◌==◌, if◌then◌else◌}
use Rattle.hx_board.specs.Sets.{has}

-- the set has, of the numbers below 128, those in the lower halves of their blocks
abbrev pub AreLowHalves : ℕ → ℕ → Type 0
AreLowHalves half low = (n : ℕ) → n < 128 → has low n ≡ (n / half % 2 == 0)

-- the number at the same place in the other half of the block
abbrev pub partner : ℕ → ℕ → ℕ
partner half n = if n / half % 2 == 0 then n + half else n - half
