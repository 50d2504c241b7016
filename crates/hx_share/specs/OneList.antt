-- The rule of the table. There is one list of nodes, of which each seat and each note has seen a front. The one word
-- is twice the length of the list, and one more while a seat has the book. While none has it, the book is in the one
-- slot, and holds the list. The seat that has it has seen the whole list. These words are for the functions inside
-- the crate alone.
use Rattle.std.specs.Prelude.{◌≡◌, ◌≢◌, ℕ, ◌+◌, ◌*◌, ◌≤◌, Bool, true, false, Option, Some, List, [], ◌∷◌, ◌++◌}
use Rattle.std.specs.Prelude.{length, map, take, drop, replicate, slice_index, slice_index_or, sum_by, count_by}
use mathlib.Core.Option.{some}
use lib.ListN.{get_elem?}
use Rattle.atomic_table.specs.Table.{State, Me, Step}
use Rattle.hx_tree.specs.declared.nodes.Node.{Node}
use Rattle.hx_tree.specs.Entries.{Extends}
use Rattle.hx_book.specs.declared.books.TheConstants.{MOST_SLOTS}
use Rattle.hx_book.specs.Entries.{Contents, contents}
use Rattle.hx_share.specs.declared.views.Limits.{Limits}
use Rattle.hx_share.specs.declared.views.Role.{Role}
use Rattle.hx_share.specs.declared.views.Role.TheVariants.{Note, Waiting, Acting}
use Rattle.hx_share.specs.declared.views.Part.{Part}
use Rattle.hx_share.specs.declared.views.View.{View}
use Rattle.hx_share.specs.Fronts.{AreFronts, longer}

abbrev pub part : ℕ → Role → List Node → Part
part slots role seen = record { slots = slots; role = role; seen = seen }

abbrev pub view : List Part → View
view parts = record { parts = parts }

-- the limits that the calls allow
pub record AreSmall (limits : Limits) : Type 0 where
  pub slots : limits.slots ≤ MOST_SLOTS
  pub seats : limits.seats ≤ 64

-- whether it is a seat, and no note
abbrev pub is_seat : Role → Bool
is_seat Note = false
is_seat Waiting = true
is_seat Acting = true

abbrev pub has_book : Role → Bool
has_book Note = false
has_book Waiting = false
has_book Acting = true

-- how many of a view's parts are seats
abbrev pub seats_of : View → ℕ
seats_of v = count_by (λ (p : Part). is_seat p.role) v.parts

-- how many of a view's parts have the book
abbrev pub holders_of : View → ℕ
holders_of v = count_by (λ (p : Part). has_book p.role) v.parts

-- a part is of this table, and has seen a front of the list, or all of it where it has the book
pub record IsCurrent (limits : Limits) (nodes : List Node) (p : Part) : Type 0 where
  pub same_slots : p.slots ≡ limits.slots
  pub front : Extends p.seen nodes
  pub whole : has_book p.role ≡ true → p.seen ≡ nodes

abbrev pub AreCurrentParts : Limits → List Node → List Part → Type 0
AreCurrentParts limits nodes [] = Unit {0}
AreCurrentParts limits nodes (p ∷ parts) = IsCurrent limits nodes p × AreCurrentParts limits nodes parts

abbrev pub AreCurrent : Limits → List Node → List View → Type 0
AreCurrent limits nodes views = (id : ℕ) (v : View) → get_elem? views id ≡ some v → AreCurrentParts limits nodes v.parts

-- the table between two steps
pub record IsOneList (limits : Limits) (s : State (Option Contents) View) : Type 0 where
  pub nodes : List Node
  pub few : length nodes ≤ limits.slots
  pub small : AreSmall limits
  pub one_word : length s.words ≡ 1
  pub one_slot : length s.homes ≡ 1
  pub word : slice_index s.words 0 ≡ 2 * length nodes + sum_by holders_of s.views
  pub one_holder : sum_by holders_of s.views ≤ 1
  pub home : sum_by holders_of s.views ≡ 0 → get_elem? s.homes 0 ≡ some (some (Some (contents limits.slots nodes)))
  pub seats : sum_by seats_of s.views ≡ limits.seats
  pub current : AreCurrent limits nodes s.views

-- the first seat has the parts of all seats, which have seen nothing yet
abbrev pub first_view : Limits → View
first_view limits = view (replicate limits.seats (part limits.slots Waiting []))

-- a seat, and the slots that are out with it, each with what it holds
abbrev pub Seated : Type 0
Seated = Me (Option Contents) View

-- one part, and no slot
abbrev pub alone : ℕ → Role → List Node → Seated
alone slots role seen = (view (part slots role seen ∷ []), [])

-- one part, which has the book, and the slot, which holds this
abbrev pub acting : ℕ → List Node → Option Contents → Seated
acting slots seen held = (view (part slots Acting seen ∷ []), (0, held) ∷ [])

-- a part of no table
abbrev pub no_part : Part
no_part = part 0 Note []

abbrev pub first_part : View → Part
first_part v = slice_index_or v.parts 0 no_part

abbrev pub second_part : View → Part
second_part v = slice_index_or v.parts 1 no_part

-- the seat has the book, and has seen all of its nodes
pub record IsTaken (slots : ℕ) (seen : List Node) (new : Seated) : Type 0 where
  pub nodes : List Node
  pub more : Extends seen nodes
  pub same : new ≡ acting slots nodes (Some (contents slots nodes))

-- what each step tells the seat that makes it, of itself before, the number found, and itself after
abbrev pub takes_book : Step (Option Contents) → Seated → ℕ → Seated → Type 0
takes_book st old found new =
    (found ≡ st.first → IsTaken (first_part old.0).slots (first_part old.0).seen new) × (found ≢ st.first → new ≡ old)

abbrev pub gives_back : Step (Option Contents) → Seated → ℕ → Seated → Type 0
gives_back st old found new =
    (book : Contents) → old.1 ≡ (0, Some book) ∷ [] → new ≡ alone (first_part old.0).slots Waiting book.nodes

-- of two parts the second stays, and has seen the longer of the two lists, which are fronts of one list
abbrev pub settles : Step (Option Contents) → Seated → ℕ → Seated → Type 0
settles st old found new =
    (new ≡ alone (second_part old.0).slots (second_part old.0).role
    (longer (second_part old.0).seen (first_part old.0).seen))
    × AreFronts (second_part old.0).seen (first_part old.0).seen

-- a seat is split: the new one has the first part, and the others stay
abbrev pub all_but_first : View → View
all_but_first v = view (drop 1 v.parts)

abbrev pub only_first : View → View
only_first v = view (take 1 v.parts)

-- a seat is split: it stays as it is, and the new one has a note of what each of its parts has seen
abbrev pub itself : View → View
itself v = v

abbrev pub noted : Part → Part
noted p = part p.slots Note p.seen

abbrev pub notes_of : View → View
notes_of v = view (map noted v.parts)

-- a seat takes in another, whose parts come first
abbrev pub joined : View → View → View
joined v w = view (w.parts ++ v.parts)

abbrev pub no_parts : View
no_parts = view []
