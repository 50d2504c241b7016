-- How long a line of an input may be.
use Rattle.std.specs.Prelude.{◌≡◌, ℕ, ◌<◌, List, ◌++◌, length}
use Rattle.hx_lines.specs.Lines.{HasLf, longest}

-- the next line has more bytes than a line may have, without its LF
pub record BeginsLong (rest : List ℕ) : Type 0 where
  pub front : List ℕ
  pub more : List ℕ
  pub parts : rest ≡ front ++ more
  pub plain : ¬ HasLf front
  pub long : longest < length front
