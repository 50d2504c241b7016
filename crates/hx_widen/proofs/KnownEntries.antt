-- Entries that are known: one more of them, a list that grew, and the children of a node that is right after them.
use Rattle.std.proofs.Common.{◌≡◌, Bool, false, ℕ, zero, suc, ◌<◌, List, [], ◌∷◌, ◌++◌, length, refl, sym, ap, ◌∙◌, subst, Some, arith}
use Rattle.std.proofs.lemmas.Option.{slice_get_within}
use Rattle.std.specs.Prelude.{slice_get, slice_index}
use Rattle.hx_board.proofs.ListLaws.{get-append, get-map}
use Rattle.hx_tree.specs.declared.nodes.Heading.{Heading}
use Rattle.hx_tree.specs.declared.nodes.Node.{Node}
use Rattle.hx_tree.specs.Trees.{headings_of}
use Rattle.hx_tree.specs.Rules.{IsRightNode}
use Rattle.hx_book.specs.Trees.{Names, renamed_node}
use Rattle.hx_book.proofs.ChildLaws.{rule-size}
use Rattle.hx_book.proofs.RenamingLaws.{node-renamed}
use Rattle.hx_board.specs.declared.colours.Colour.{Colour}
use Rattle.hx_board.specs.Positions.{Board}
use Rattle.hx_tree.specs.declared.entries.Found.{Found}
use Rattle.hx_tree.specs.Entries.{Extends, IsEntry, IsFirstFound}
use Rattle.hx_tree.proofs.EntryLaws.{node-later}
use Rattle.hx_book.specs.declared.wider.Wider.{Wider}
use Rattle.hx_book.specs.WiderEntry.{IsWiderFound}
use Rattle.hx_widen.specs.Inner.{AreKnown}
use Rattle.hx_nodes.proofs.GrowingLists.{extends-headings}

module _ (list : List Node) where
  pub one_more_known : (headings : List Heading) (places : List ℕ) (heading : Heading) (place : ℕ) → AreKnown list headings places
      → slice_get (headings_of list) place ≡ Some heading → AreKnown list (headings ++ heading ∷ []) (places ++ place ∷ [])
  one_more_known [] [] heading place known there = (there, tt)
  one_more_known [] (other ∷ places) heading place known there = absurd known
  one_more_known (first ∷ headings) [] heading place known there = absurd known
  one_more_known (first ∷ headings) (other ∷ places) heading place known there =
      (known.0, one_more_known headings places heading place known.1 there)

  known_at : (headings : List Heading) (places : List ℕ) (k : ℕ) → AreKnown list headings places → k < length headings
      → slice_get (headings_of list) (slice_index places k) ≡ slice_get headings k
  known_at [] places k known less = absurd (omega arith)
  known_at (first ∷ headings) [] k known less = absurd known
  known_at (first ∷ headings) (other ∷ places) zero known less = known.0
  known_at (first ∷ headings) (other ∷ places) (suc k) known less = known_at headings places k known.1 (omega arith)

  -- a child of a node that is right after the known headings is one of them
  pub child_known : (headings : List Heading) (node : Node) (child : ℕ) → IsRightNode headings node → Names node.rule child
      → child < length headings
  child_known headings node child right names =
      let found = rule-size headings node.heading node.rule child right.rule names in
      slice_get_within headings child found.heading found.there

  pub known_length : (headings : List Heading) (places : List ℕ) → AreKnown list headings places → length places ≡ length headings
  known_length [] [] known = refl
  known_length [] (other ∷ places) known = absurd known
  known_length (first ∷ headings) [] known = absurd known
  known_length (first ∷ headings) (other ∷ places) known = ap suc (known_length headings places known.1)

  pub known_right : (headings : List Heading) (places : List ℕ) (node : Node) → AreKnown list headings places → IsRightNode headings node
      → IsRightNode (headings_of list) (renamed_node (λ (place : ℕ). slice_index places place) node)
  known_right headings places node known right =
      node-renamed headings (headings_of list) (λ (place : ℕ). slice_index places place) node
      (λ child names. known_at headings places child known (child_known headings node child right names)) right

-- what is known stays known in a list that grew
module _ (new old : List Node) (grown : Extends old new) where
  at-new : (place : ℕ) (heading : Heading) → slice_get (headings_of old) place ≡ Some heading
      → slice_get (headings_of new) place ≡ Some heading
  at-new place heading there =
      let more = extends-headings new old grown in
      rw more.1 (get-append (headings_of old) more.0 place heading there)

  pub known_grown : (headings : List Heading) (places : List ℕ) → AreKnown old headings places → AreKnown new headings places
  known_grown [] [] known = tt
  known_grown [] (other ∷ places) known = absurd known
  known_grown (first ∷ headings) [] known = absurd known
  known_grown (first ∷ headings) (other ∷ places) known = (at-new other first known.0, known_grown headings places known.1)

same_heading : (heading : Heading) (board : Board) (mover winner : Colour) → heading.position ≡ board → heading.to_move ≡ mover
    → heading.winner ≡ winner
    → heading ≡ record { position = board; to_move = mover; winner = winner }
same_heading heading board mover winner position to_move won = rw (sym position, sym to_move, sym won) refl

-- what a look found is a node of the list with this heading
pub found_known : (list : List Node) (board : Board) (mover : Colour) (found : Found) → IsFirstFound list board mover found
    → slice_get (headings_of list) found.index ≡ Some (record { position = board; to_move = mover; winner = found.winner })
found_known list board mover found is =
    let node : Node = is.first.entry.node in
    get-map (λ (n : Node). n.heading) list found.index node is.first.entry.there
    ∙ ap Some (same_heading node.heading board mover found.winner is.first.entry.is_of.same_position is.first.entry.is_of.same_mover
    (sym is.same_winner))

-- the entry that was found is one of its own position
pub wider-own_entry : (list : List Node) (board : Board) (mover : Colour) (wider : Wider)
    → IsWiderFound false list board mover wider.found.winner wider → IsEntry list wider.position mover wider.found.index
wider-own_entry list board mover wider is = record {
  node = is.entry.node;
  there = is.entry.there;
  is_of = record { same_position = sym is.same_position; same_mover = is.entry.is_wider.same_mover };
}

-- what was found of a winner is of the winner that it tells
pub wider_found-told : (plain : Bool) (list : List Node) (board : Board) (mover winner : Colour) (wider : Wider)
    → IsWiderFound plain list board mover winner wider → IsWiderFound plain list board mover wider.found.winner wider
wider_found-told plain list board mover winner wider is =
    subst (λ (told : Colour). IsWiderFound plain list board mover told wider) (sym is.same_winner) is

-- what was found is found in a list that grew
pub wider_found-later : {plain : Bool} → (new old : List Node) (board : Board) (mover : Colour) (wider : Wider) → Extends old new
    → IsWiderFound plain old board mover wider.found.winner wider → IsWiderFound plain new board mover wider.found.winner wider
wider_found-later new old board mover wider grown is = record {
  entry = record {
    node = is.entry.node;
    there = node-later new old wider.found.index is.entry.node grown is.entry.there;
    is_wider =
        is.entry.is_wider;
  };
  same_winner = is.same_winner;
  same_position = is.same_position;
}
