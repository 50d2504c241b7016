-- The spelling of numbers, masks, colours, cells and vertices, and of lines of words.
use Rattle.std.specs.Prelude.{◌≡◌, ℕ, zero, suc, ◌+◌, ◌/◌, ◌%◌, ◌<◌, ◌^◌, ◌==◌, Bool, true, false, nat_lt}
use Rattle.std.specs.Prelude.{if◌then◌else◌, List, [], ◌∷◌, ◌++◌, codes, length, ◌≤◌, slice_index}
use Rattle.std.specs.Fmt.{decimal}
use Rattle.std.specs.declared.option.Option.{Option}
use Rattle.std.specs.declared.option.Option.TheVariants.{None, Some}
use Rattle.hx_board.specs.declared.colours.Colour.{Colour}
use Rattle.hx_board.specs.declared.colours.Colour.TheVariants.{Black, White}
use Rattle.hx_board.specs.Cells.{row_of, col_of}
use Rattle.hx_board.specs.declared.vertices.Vertex.{Vertex}
use Rattle.hx_board.specs.declared.vertices.Vertex.TheVariants.{Of, First, Last}

-- a digit of a mask
abbrev pub hex_digit : ℕ → ℕ
hex_digit n = if nat_lt n 10 then 48 + n else 87 + n

-- so many digits of a number, the most significant first
unfoldable pub hex : ℕ → ℕ → List ℕ
hex zero n = []
hex (suc digits) n = hex digits (n / 16) ++ hex_digit (n % 16) ∷ []

abbrev pub mask_word : ℕ → List ℕ
mask_word set = hex 32 set

abbrev pub colour_word : Colour → List ℕ
colour_word Black = codes "black"
colour_word White = codes "white"

-- the column's letter, and the row counted from 1
abbrev pub cell_word : ℕ → List ℕ
cell_word cell = (97 + col_of cell) ∷ decimal (row_of cell + 1)

abbrev pub vertex_word : Vertex → List ℕ
vertex_word (Of cell) = cell_word cell
vertex_word First = codes "first"
vertex_word Last = codes "last"

-- words with one space between
unfoldable pub spaced : List (List ℕ) → List ℕ
spaced [] = []
spaced (word ∷ []) = word
spaced (word ∷ next ∷ words) = word ++ 32 ∷ spaced (next ∷ words)

-- what a reader of a text answers: the value that is spelled so; and nothing only where no value is. Fit and spelling
-- are two premises, as proofs take them, and no `Finds` of both
abbrev pub Reads : {V X : Type 0} → (V → X) → (V → Type 0) → X → Option V → Type 0
Reads spelling Fits text (Some value) = Fits value × (text ≡ spelling value)
Reads {V} spelling Fits text None = (value : V) → Fits value → text ≡ spelling value → ⊥

-- a number that a text may have
abbrev pub IsNumber : ℕ → Type 0
IsNumber n = n < 2 ^ 32

-- a set of cells that a mask may spell
abbrev pub IsSet : ℕ → Type 0
IsSet set = set < 2 ^ 128

-- the parts with one byte more in front of the first
abbrev pub in_first : ℕ → List (List ℕ) → List (List ℕ)
in_first byte [] = (byte ∷ []) ∷ []
in_first byte (part ∷ parts) = (byte ∷ part) ∷ parts

-- the parts between the marks
unfoldable pub split_at_marks : ℕ → List ℕ → List (List ℕ)
split_at_marks mark [] = [] ∷ []
split_at_marks mark (byte ∷ bytes) =
    if byte == mark then [] ∷ split_at_marks mark bytes else in_first byte (split_at_marks mark bytes)

-- the parts of a line between its spaces
abbrev pub words_in : List ℕ → List (List ℕ)
words_in line = split_at_marks 32 line

-- what a reader of the first of some words answers: the value whose word it is, before the words that are left; and
-- nothing only where it is no value's word; with two premises, as `Reads` has
abbrev pub Takes : {V : Type 0} → (V → List ℕ) → (V → Type 0) → List (List ℕ) → Option V → List (List ℕ) → Type 0
Takes spelling Fits old (Some value) new = Fits value × (old ≡ spelling value ∷ new)
Takes {V} spelling Fits old None new = (value : V) (rest : List (List ℕ)) → Fits value → old ≡ spelling value ∷ rest → ⊥

-- ---- words for the functions inside the crate alone

-- what a cursor over the words of a line has left
abbrev pub words_left : Bool → List ℕ → List (List ℕ)
words_left true rest = words_in rest
words_left false rest = []

-- the shape of a number's digits
pub record IsCanonical (word : List ℕ) : Type 0 where
  pub some : 0 < length word
  pub short : length word ≤ 10
  pub no_zero : slice_index word 0 ≡ 48 → length word ≡ 1
