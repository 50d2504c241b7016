-- Elements by their places, and lists of nodes that go on: what was found stays found, and what is full stays as it is.
use Rattle.std.proofs.Common.{◌≡◌, ℕ, ◌<◌, ◌≤◌, List, [], ◌∷◌, ◌++◌, length, sym, ap, ◌∙◌, subst, All, Any, Some, length-append, append-nil}
use Rattle.std.proofs.Common.{arith}
use Rattle.std.proofs.lemmas.Option.{get_or_from_slice_get, slice_get_within}
use Rattle.std.specs.Prelude.{slice_get}
use Rattle.hx_board.specs.declared.colours.Colour.{Colour}
use Rattle.hx_board.specs.Positions.{Board}
use Rattle.hx_board.proofs.ListLaws.{get-append, get-append_before}
use Rattle.hx_tree.specs.declared.nodes.Node.{Node}
use Rattle.hx_tree.specs.declared.entries.Found.{Found}
use Rattle.hx_tree.specs.Entries.{IsEntry, IsFirstFound, Extends}

-- what holds of each element holds of the one at a place
pub all-get : {A : Type 0} → (P : A → Type 0) (xs : List A) (place : ℕ) (x : A) → All P xs → slice_get xs place ≡ Some x → P x
all-get P xs place x all there = subst P (get_or_from_slice_get xs place x x there) (all place x (slice_get_within xs place x there))

-- some element has what the one at a place has
pub any-get : {A : Type 0} → (P : A → Type 0) (xs : List A) (place : ℕ) (x : A) → slice_get xs place ≡ Some x → P x → Any P xs
any-get P xs place x there has = (place, x, slice_get_within xs place x there, get_or_from_slice_get xs place x x there, has)

-- what was found first is found first in a list that goes on
pub found-later : (old new : List Node) (board : Board) (mover : Colour) (found : Found) → Extends old new
    → IsFirstFound old board mover found
    → IsFirstFound new board mover found
found-later old new board mover found more first = rw more.1 later
  where
    inside : found.index < length old
    inside = slice_get_within old found.index first.first.entry.node first.first.entry.there

    before : (earlier : ℕ) → earlier < found.index → IsEntry (old ++ more.0) board mover earlier → ⊥
    before earlier less entry = first.first.first earlier less (record {
      node = entry.node;
      there = sym (get-append_before old more.0 earlier (omega (arith, less, inside))) ∙ entry.there;
      is_of = entry.is_of;
    })

    later : IsFirstFound (old ++ more.0) board mover found
    later = record {
      first = record {
        entry = record {
          node = first.first.entry.node;
          there = get-append old more.0 found.index first.first.entry.node first.first.entry.there;
          is_of = first.first.entry.is_of;
        };
        first = before;
      };
      same_winner = first.same_winner;
    }

-- a list that is as long as any that goes on from it may be is that list
pub no_longer : (old new : List Node) → Extends old new → length new ≤ length old → new ≡ old
no_longer old new more few = none more.0 more.1 (omega (arith, ap length more.1, length-append old more.0, few))
  where
    none : (rest : List Node) → new ≡ old ++ rest → length rest ≤ 0 → new ≡ old
    none [] e small = e ∙ append-nil old
    none (node ∷ rest) e small = absurd (omega arith)
