-- In a plain list the entry of a position serves it, where it names the winner, and none serves it else.
use Rattle.std.proofs.Common.{◌≡◌, ◌≢◌, ℕ, List, sym, ap, ◌∙◌, true}
use Rattle.std.specs.Prelude.{slice_get}
use Rattle.std.proofs.lemmas.Option.{same_Some}
use Rattle.hx_board.specs.declared.colours.Colour.{Colour}
use Rattle.hx_board.specs.Positions.{Board}
use Rattle.hx_tree.specs.declared.entries.Found.{Found}
use Rattle.hx_tree.specs.declared.nodes.Node.{Node}
use Rattle.hx_tree.specs.Entries.{IsEntry, HasNoEntry, AreDistinctEntries, IsFirstFound}
use Rattle.hx_book.specs.WiderEntry.{IsWiderEntry, HasNoWider, IsWiderFound}

module _ (nodes : List Node) (board : Board) (mover winner : Colour) where
  pub own-entry : (place : ℕ) → IsWiderEntry true nodes board mover winner place → IsEntry nodes board mover place
  own-entry place entry = record {
    node = entry.node;
    there = entry.there;
    is_of = record { same_position = entry.is_wider.same_position; same_mover = entry.is_wider.same_mover };
  }

  pub own-none : HasNoEntry nodes board mover → HasNoWider true nodes board mover winner
  own-none none place entry = none place (own-entry place entry)

  pub own-other : (found : Found) → AreDistinctEntries nodes → IsFirstFound nodes board mover found → found.winner ≢ winner
      → HasNoWider true nodes board mover winner
  own-other found distinct is differs place entry =
      let first = is.first.entry in
      let same_place : found.index ≡ place = distinct board mover found.index place first (own-entry place entry) in
      let same_node : first.node ≡ entry.node =
      same_Some first.node entry.node (sym first.there ∙ ap (λ (p : ℕ). slice_get nodes p) same_place ∙ entry.there) in
      differs (is.same_winner ∙ ap (λ (n : Node). n.heading.winner) same_node ∙ entry.is_wider.same_winner)

  pub own-found : (found : Found) → IsFirstFound nodes board mover found → found.winner ≡ winner
      → IsWiderFound true nodes board mover winner (record { found = found; position = board })
  own-found found is same =
      let first = is.first.entry in
      record {
        entry = record {
          node = first.node;
          there = first.there;
          is_wider = record {
            same_position = first.is_of.same_position;
            same_mover = first.is_of.same_mover;
            same_winner = sym is.same_winner ∙ same;
          };
        };
        same_winner = same;
        same_position = sym first.is_of.same_position;
      }
