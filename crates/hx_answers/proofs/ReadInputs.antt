-- What was read to its end.
use Rattle.std.proofs.Common.{◌≡◌, ℕ, List, ap}
use Rattle.std.specs.Prelude.{Option, Some, None}
use Rattle.hx_io.specs.Sources.{prepend, IsAtEnd}
use Rattle.hx_answers.specs.Endings.{IsReadToEnd}

some_not_none : (bytes : List ℕ) → Some bytes ≡ None → ⊥
some_not_none bytes is = cc

pub read_to_end : (before now : Option (List ℕ)) (bytes : List ℕ) → before ≡ prepend bytes now → IsAtEnd now → IsReadToEnd before now
read_to_end None now bytes parts end = tt
read_to_end (Some input) None bytes parts end = absurd (some_not_none input parts)
read_to_end (Some input) (Some rest) bytes parts end = ap Some end
