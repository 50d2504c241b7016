-- What the two searches of a book look for, and what they find.
use Rattle.std.proofs.Common.{◌≡◌, ℕ, List, refl, sym, ap, ◌∙◌, arith, Some, false}
use Rattle.std.specs.Prelude.{slice_get}
use Rattle.hx_board.specs.declared.colours.Colour.{Colour}
use Rattle.hx_board.specs.declared.colours.Colour.TheVariants.{Black, White}
use Rattle.hx_board.specs.Positions.{Board, stones_of}
use Rattle.hx_tree.specs.declared.nodes.Node.{Node}
use Rattle.hx_tree.specs.Entries.{IsOf, IsEntry, HasNoEntry, AreDistinctEntries, IsFirstFound}
use Rattle.hx_book.specs.WiderEntry.{IsWider, HasNoWider, IsWiderFound}
use Rattle.hx_book.specs.Buckets.{bucket_of, alone_of, stones_bucket_of, position_key, stones_key}

-- ---- a position and mover

pub entry-bucket : (buckets : ℕ) (board : Board) (mover : Colour) (bucket : ℕ) → bucket ≡ bucket_of buckets board mover
    → (node : Node) → IsOf board mover node → position_key buckets node ≡ bucket
entry-bucket buckets board mover bucket is_bucket node has =
    ap (λ (b : Board). bucket_of buckets b node.heading.to_move) has.same_position
    ∙ ap (λ (m : Colour). bucket_of buckets board m) has.same_mover ∙ sym is_bucket

module _ (nodes : List Node) (board : Board) (mover : Colour) where
  entry-there : (place : ℕ) (node : Node) → slice_get nodes place ≡ Some node → IsOf board mover node → IsEntry nodes board mover place
  entry-there place node there has = record { node = node; there = there; is_of = has }

  pub entry-first : (place : ℕ) (node : Node) → slice_get nodes place ≡ Some node → AreDistinctEntries nodes → IsOf board mover node
      → IsFirstFound nodes board mover (record { index = place; winner = node.heading.winner })
  unfolding entry-there
  entry-first place node there distinct has = record {
    first = record {
      entry = entry-there place node there has;
      first = λ earlier less other. omega (arith, less, distinct board mover earlier place other (entry-there place node there has));
    };
    same_winner = refl;
  }

  pub entry-none : ((place : ℕ) (node : Node) → slice_get nodes place ≡ Some node → IsOf board mover node → ⊥)
      → HasNoEntry nodes board mover
  entry-none none place entry = none place entry.node entry.there entry.is_of

-- ---- a position, mover and winner

abbrev pub HasWider : Board → Colour → Colour → Node → Type 0
HasWider board mover winner node = IsWider node.heading board mover winner

-- boards of one size with the same stones of a player are the same with this player's stones alone
same-alone : (one other : Board) (player : Colour) → one.size ≡ other.size → stones_of one player ≡ stones_of other player
    → alone_of one player ≡ alone_of other player
same-alone one other Black sizes stones = cc
same-alone one other White sizes stones = cc

pub wider-bucket : (buckets : ℕ) (board : Board) (mover winner : Colour) (bucket : ℕ) → bucket ≡ stones_bucket_of buckets board mover winner
    → (node : Node) → HasWider board mover winner node → stones_key buckets node ≡ bucket
wider-bucket buckets board mover winner bucket is_bucket node has =
    ap (λ (w : Colour). stones_bucket_of buckets node.heading.position node.heading.to_move w) has.same_winner
    ∙ ap (λ (b : Board). bucket_of buckets b node.heading.to_move)
    (same-alone node.heading.position board winner has.same_size has.same_stones)
    ∙ ap (λ (m : Colour). bucket_of buckets (alone_of board winner) m) has.same_mover ∙ sym is_bucket

module _ (nodes : List Node) (board : Board) (mover winner : Colour) where
  pub wider-found : (place : ℕ) (node : Node) → slice_get nodes place ≡ Some node → HasWider board mover winner node
      → IsWiderFound false nodes board mover winner
      (record { found = record { index = place; winner = winner }; position = node.heading.position })
  wider-found place node there has = record {
    entry = record { node = node; there = there; is_wider = has };
    same_winner = refl;
    same_position = refl;
  }

  pub wider-none : ((place : ℕ) (node : Node) → slice_get nodes place ≡ Some node → HasWider board mover winner node → ⊥)
      → HasNoWider false nodes board mover winner
  wider-none none place entry = none place entry.node entry.there entry.is_wider
