-- What of a line counts, its words, and its number.
use Rattle.std.specs.Prelude.{ℕ, Bool, true, false, ◌&&◌, ◌||◌, not, ◌==◌, nat_le}
use Rattle.std.specs.Prelude.{List, [], ◌∷◌, length, if◌then◌else◌, filter}
use Rattle.std.specs.List.{before_first, list_all}
use Rattle.std.specs.Char.{is_ascii_digit}
use Rattle.hx_lex.specs.Words.{in_first}

-- a byte that counts: no control byte but the tabulator
abbrev pub is_kept : ℕ → Bool
is_kept byte = (nat_le 32 byte && not (byte == 127)) || byte == 9

abbrev pub is_hash : ℕ → Bool
is_hash byte = byte == 35

-- what of a line counts: the bytes that are kept, up to the first `#`
abbrev pub shown : List ℕ → List ℕ
shown line = before_first is_hash (filter is_kept line)

-- the tabulator counts as a space
abbrev pub is_space : ℕ → Bool
is_space byte = byte == 32 || byte == 9

-- the parts between the spaces, some of which may be empty
unfoldable pub parts_between : List ℕ → List (List ℕ)
parts_between [] = [] ∷ []
parts_between (byte ∷ bytes) = if is_space byte then [] ∷ parts_between bytes else in_first byte (parts_between bytes)

abbrev pub has_bytes : List ℕ → Bool
has_bytes [] = false
has_bytes (byte ∷ bytes) = true

-- the runs of bytes other than spaces
abbrev pub words_in : List ℕ → List (List ℕ)
words_in bytes = filter has_bytes (parts_between bytes)

-- the words of a line
abbrev pub words_of : List ℕ → List (List ℕ)
words_of line = words_in (shown line)

-- a line's number: one to ten decimal digits
abbrev pub is_number : List ℕ → Bool
is_number word = nat_le 1 (length word) && nat_le (length word) 10 && list_all is_ascii_digit word

-- the number in front of the words, if there is one, and else no byte
abbrev pub number_of_line : List (List ℕ) → List ℕ
number_of_line [] = []
number_of_line (word ∷ words) = if is_number word then word else []

-- the words without that number
abbrev pub command_words : List (List ℕ) → List (List ℕ)
command_words [] = []
command_words (word ∷ words) = if is_number word then words else word ∷ words
