-- What is seen of an adapter of std's reader or writer.
use Rattle.std.specs.Prelude.{ℕ}

-- the reader or the writer, and how many calls failed
pub record Counted (S : Type 0) : Type 0 where
  pub inner : S
  pub faults : ℕ
