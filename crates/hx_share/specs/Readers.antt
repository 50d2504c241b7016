-- Shared books, seats and notes as contracts see them.
use Rattle.std.specs.Prelude.{◌≡◌, ℕ, List, length, Some}
use Rattle.atomic_table.specs.Seated.{TableId}
use Rattle.hx_tree.specs.declared.nodes.Node.{Node}
use Rattle.hx_book.specs.Entries.{contents, IsBook}
use Rattle.hx_book.specs.Sights.{Sight}
use Rattle.hx_share.specs.declared.views.Role.{Role}
use Rattle.hx_share.specs.declared.views.Role.TheVariants.{Waiting}
use Rattle.hx_share.specs.declared.views.Part.{Part}
use Rattle.hx_share.specs.OneList.{Seated, part, alone, first_part}

-- which shared book: its table, and how many nodes there is room for
pub record Origin : Type 0 where
  pub table : TableId
  pub slots : ℕ

-- a shared book: which one, and how many seats it has
pub record Sharing : Type 0 where
  pub made : Origin
  pub seats : ℕ

-- a seat or a note: of which shared book, and the nodes that it has seen
pub record Reader : Type 0 where
  pub made : Origin
  pub seen : List Node

abbrev pub origin : TableId → ℕ → Origin
origin table slots = record { table = table; slots = slots }

abbrev pub sharing : Origin → ℕ → Sharing
sharing made seats = record { made = made; seats = seats }

abbrev pub reader : Origin → List Node → Reader
reader made seen = record { made = made; seen = seen }

-- what a seat has seen, as whoever goes by a list of proofs sees it
abbrev pub sight_of : Reader → Sight
sight_of seat = record { list = seat.seen; slots = seat.made.slots; over = Some seat.made.table }

-- ---- the fields of a seat and of a note: words for the functions inside the crate alone

abbrev pub reader_of : TableId → Part → Reader
reader_of table p = reader (origin table p.slots) p.seen

-- the part of a seat
abbrev pub part_of : Reader → Part
part_of r = part r.made.slots Waiting r.seen

-- one part and no slot, and what it has seen are so many nodes of a book
pub record ReaderKeeps (role : Role) (me : Seated) (count : ℕ) : Type 0 where
  pub whole : me ≡ alone (first_part me.0).slots role (first_part me.0).seen
  pub counted : length (first_part me.0).seen ≡ count
  pub book : IsBook (contents (first_part me.0).slots (first_part me.0).seen)
