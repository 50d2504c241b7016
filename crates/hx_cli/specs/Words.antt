-- The words of the command line.
use Rattle.std.specs.Prelude.{ℕ, List, map, String, string_bytes}
use Rattle.std.specs.declared.alloc.Global.{Global}

-- the words, as bytes
abbrev pub words_of : List (String Global) → List (List ℕ)
words_of words = map string_bytes words
