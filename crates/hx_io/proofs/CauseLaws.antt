-- A count that rose between two moments rose from every earlier one up to every later one.
use Rattle.std.proofs.Common.{ℕ, ◌≤◌, arith}
use Rattle.hx_io.specs.Causes.{Rose}

pub rose_from_earlier : (earlier before now : ℕ) → earlier ≤ before → Rose before now → Rose earlier now
rose_from_earlier earlier before now below rose = omega (arith, below, rose)

pub rose_up_to_later : (before now later : ℕ) → Rose before now → now ≤ later → Rose before later
rose_up_to_later before now later rose above = omega (arith, rose, above)
