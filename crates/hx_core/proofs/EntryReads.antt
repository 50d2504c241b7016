-- A list of nodes that is read from its front until an entry is found.
use Rattle.std.proofs.Common.{◌≡◌, ℕ, ◌+◌, ◌<◌, ◌≤◌, List, length, get_or, refl, sym, ap, ◌∙◌, Some, below_more, arith}
use Rattle.std.proofs.lemmas.Option.{slice_get_read, slice_get_within, same_Some}
use Rattle.std.specs.Prelude.{slice_get}
use Rattle.hx_board.specs.declared.colours.Colour.{Colour}
use Rattle.hx_board.specs.Positions.{Board}
use Rattle.hx_tree.specs.declared.nodes.Node.{Node}
use Rattle.hx_tree.specs.Entries.{IsEntry, HasNoEntry, IsFirstFound}

module _ (nodes : List Node) (board : Board) (mover : Colour) (index : ℕ)
    (none : (place : ℕ) → place < index → IsEntry nodes board mover place → ⊥) where
  module _ (node : Node) (less : index < length nodes) (read : node ≡ get_or nodes index node) where
    there : slice_get nodes index ≡ Some node
    there = slice_get_read nodes _ index node refl less read

    pub read-found : (node.heading.position ≡ board) × (node.heading.to_move ≡ mover)
        → IsFirstFound nodes board mover (record { index = index; winner = node.heading.winner })
    read-found is = record {
      first = record {
        entry = record { node = node; there = there; is_of = record { same_position = is.0; same_mover = is.1 } };
        first =
            none;
      };
      same_winner = refl;
    }

    other : ((node.heading.position ≡ board) × (node.heading.to_move ≡ mover) → ⊥) → IsEntry nodes board mover index → ⊥
    other is_not entry =
        let same : entry.node ≡ node = same_Some entry.node node (sym entry.there ∙ there) in
        is_not (
          ap (λ (n : Node). n.heading.position) (sym same) ∙ entry.is_of.same_position,
          ap (λ (n : Node). n.heading.to_move) (sym same) ∙ entry.is_of.same_mover,
        )

    pub read-more : ((node.heading.position ≡ board) × (node.heading.to_move ≡ mover) → ⊥) → (place : ℕ) → place < index + 1
        → IsEntry nodes board mover place → ⊥
    read-more is_not = below_more (λ (place : ℕ). IsEntry nodes board mover place → ⊥) index none (other is_not)

  pub read-all : length nodes ≤ index → HasNoEntry nodes board mover
  read-all end place entry = none place (omega (arith, end, slice_get_within nodes place entry.node entry.there)) entry
