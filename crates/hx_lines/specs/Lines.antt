-- The lines of some bytes.
use Rattle.std.specs.Prelude.{ℕ, List, [], ◌∷◌, ◌++◌, Contains, flat_map, if◌then◌else◌, ◌==◌}

-- the most bytes of a line
abbrev pub longest : ℕ
longest = 4096

abbrev pub HasLf : List ℕ → Type 0
HasLf bytes = Contains bytes 10

-- some lines, each with its LF
abbrev pub ended_lines : List (List ℕ) → List ℕ
ended_lines lines = flat_map (λ line. line ++ 10 ∷ []) lines

-- this byte goes to the front of the first line
abbrev pub onto_first : ℕ → List (List ℕ) → List (List ℕ)
onto_first byte [] = (byte ∷ []) ∷ []
onto_first byte (line ∷ lines) = (byte ∷ line) ∷ lines

-- each LF ends a line, and a last piece without LF is a line if it has a byte
unfoldable pub lines_of : List ℕ → List (List ℕ)
lines_of [] = []
lines_of (byte ∷ bytes) = if byte == 10 then [] ∷ lines_of bytes else onto_first byte (lines_of bytes)
