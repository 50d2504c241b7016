-- The size of a full search of one empty cell more.
use Rattle.std.proofs.Common.{◌≡◌, ℕ, suc, ◌+◌, ◌*◌, ◌<◌, ◌≤◌, sym, arith}
use Rattle.hx_board.specs.Counts.{sweep_size}
use Rattle.hx_board.proofs.EmptyCells.{sweep_size-suc, sweep_size-below, sweep_size-nine}

pub size-more : (fewer from size : ℕ) → size ≡ sweep_size fewer → from ≡ fewer → 1 + (from + 1) * size ≡ sweep_size (fewer + 1)
size-more fewer from size is same =
    let one_more : fewer + 1 ≡ suc fewer = omega arith in rw (is, same, one_more) (sym (sweep_size-suc fewer))

pub size-small : (fewer from size : ℕ) → fewer < 9 → size ≡ sweep_size fewer → from ≡ fewer → 1 + (from + 1) * size ≤ 986410
size-small fewer from size few is same =
    omega (arith, size-more fewer from size is same, sweep_size-below (fewer + 1) 9 (omega arith), sweep_size-nine)
