-- What answers are made of.
use Rattle.std.specs.Prelude.{ℕ, List, [], ◌∷◌, ◌++◌, codes}
use Rattle.std.specs.Fmt.{decimal}

-- some words and a number
abbrev pub numbered_text : List ℕ → ℕ → List ℕ
numbered_text words n = words ++ decimal n

-- some words, a number and an LF
abbrev pub counted_text : List ℕ → ℕ → List ℕ
counted_text words n = (words ++ decimal n) ++ 10 ∷ []

-- ---- the answers that come in the place of another one

-- a read failed
abbrev pub read_fault_line : List ℕ
read_fault_line = codes "read fault\n"

-- memory was wanting
abbrev pub out_of_memory_line : List ℕ
out_of_memory_line = codes "out of memory\n"

-- an input is above a limit
abbrev pub too_long_line : List ℕ
too_long_line = codes "too long\n"

-- a budget of so many units was used up
abbrev pub unknown_budget_line : ℕ → List ℕ
unknown_budget_line budget = counted_text (codes "unknown budget ") budget

-- so many slots were used up
abbrev pub unknown_proofs_line : ℕ → List ℕ
unknown_proofs_line slots = counted_text (codes "unknown proofs ") slots
