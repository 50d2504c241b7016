-- Lines that begin as that of an Or with so many parts that they take memory.
use Rattle.std.specs.Prelude.{◌≡◌, ◌<◌, ℕ, List, ◌∷◌, length, codes}
use Rattle.hx_lex.specs.Words.{spaced}

-- the first word of the line is that of an Or, and more than eight words follow, which may be no parts
pub record BeginsLongOr (line : List ℕ) : Type 0 where
  pub words : List (List ℕ)
  pub same : line ≡ spaced (codes "or" ∷ words)
  pub many : 8 < length words
