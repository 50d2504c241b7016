-- Bytes cut at the first mark.
use Rattle.std.specs.Prelude.{◌≡◌, ◌≢◌, ℕ, List, [], ◌∷◌, ◌++◌}

-- no byte is the mark
abbrev pub Lacks : ℕ → List ℕ → Type 0
Lacks mark [] = Unit {0}
Lacks mark (byte ∷ bytes) = (byte ≢ mark) × Lacks mark bytes

-- the bytes before the first mark and after it, if there is one
abbrev pub IsCut : ℕ → List ℕ → List ℕ → List ℕ → Type 0
IsCut mark bytes before after = Lacks mark before × (bytes ≡ before ++ mark ∷ after)
