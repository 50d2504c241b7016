-- A list of nodes as a book of proofs. What a list has that goes on from another. With one node more: which entries it
-- has then, and that no two are of one position and mover. What was stored is the first entry of its position and
-- mover.
use Rattle.std.proofs.Common.{◌≡◌, ℕ, List, [], ◌∷◌, ◌++◌, length, append-nil, append_assoc, refl, sym, ap, ◌∙◌, subst, ◌⊎◌, inl, inr}
use Rattle.std.proofs.Common.{⊎_elim, arith}
use Rattle.std.specs.Prelude.{slice_get}
use Rattle.std.specs.declared.option.Option.TheVariants.{Some}
use Rattle.hx_board.specs.declared.colours.Colour.{Colour}
use Rattle.hx_board.specs.Positions.{Board}
use Rattle.hx_board.proofs.ListLaws.{get-append, get-push, get-push_before, get-push_last}
use Rattle.hx_tree.specs.declared.nodes.Node.{Node}
use Rattle.hx_tree.specs.Entries.{IsOf, IsEntry, HasNoEntry, AreDistinctEntries, IsFirstEntry, IsThere, IsAdded, IsStored, Extends, WasSeen}

-- ---- a list that begins with another

pub extends-itself : (list : List Node) → Extends list list
extends-itself list = ([], sym (append-nil list))

pub extends-on : (first second third : List Node) → Extends first second → Extends second third → Extends first third
extends-on first second third one two =
    (one.0 ++ two.0, two.1 ∙ ap (λ (nodes : List Node). nodes ++ two.0) one.1 ∙ append_assoc first one.0 two.0)

-- what holds of the new list
pub seen-now : (Fact : List Node → Type 0) (old new : List Node) → Extends old new → Fact new → WasSeen Fact old new
seen-now Fact old new grown fact = record { seen = new; after_old = grown; before_new = extends-itself new; fact = fact }

-- what was seen is so of an earlier list and a later one too
pub seen-within : (Fact : List Node → Type 0) (first old new last : List Node) → Extends first old → Extends new last → WasSeen Fact old new
    → WasSeen Fact first last
seen-within Fact first old new last from to was = record {
  seen = was.seen;
  after_old = extends-on first old was.seen from was.after_old;
  before_new = extends-on was.seen new last was.before_new to;
  fact = was.fact;
}

pub node-later : (new old : List Node) (place : ℕ) (node : Node) → Extends old new → slice_get old place ≡ Some node
    → slice_get new place ≡ Some node
node-later new old place node more there = rw more.1 (get-append old more.0 place node there)

-- an entry stays one
pub entry-later : (new old : List Node) (board : Board) (mover : Colour) (place : ℕ) → Extends old new → IsEntry old board mover place
    → IsEntry new board mover place
entry-later new old board mover place more entry = record {
  node = entry.node;
  there = node-later new old place entry.node more entry.there;
  is_of = entry.is_of;
}

-- ---- one node more

module _ (nodes : List Node) (node : Node) where
  pub entry-before : (board : Board) (mover : Colour) (place : ℕ) → IsEntry nodes board mover place
      → IsEntry (nodes ++ node ∷ []) board mover place
  entry-before board mover place entry =
      record { node = entry.node; there = get-push_before nodes node place entry.node entry.there; is_of = entry.is_of }

  pub entry-last : IsEntry (nodes ++ node ∷ []) node.heading.position node.heading.to_move (length nodes)
  entry-last = record { node = node; there = get-push_last nodes node; is_of = record { same_position = refl; same_mover = refl } }

  pub entry-cases : (board : Board) (mover : Colour) (place : ℕ) → IsEntry (nodes ++ node ∷ []) board mover place
      → IsEntry nodes board mover place ⊎ ((place ≡ length nodes) × IsOf board mover node)
  entry-cases board mover place entry = ⊎_elim
      (λ was. inl (record { node = entry.node; there = was; is_of = entry.is_of }))
      (λ last. inr (last.0, subst (λ (n : Node). IsOf board mover n) last.1 entry.is_of))
      (get-push nodes node entry.node place entry.there)

  -- an entry of the new node's position and mover is none of before
  new-only : HasNoEntry nodes node.heading.position node.heading.to_move → (board : Board) (mover : Colour) → IsOf board mover node
      → (place : ℕ) → IsEntry nodes board mover place → ⊥
  new-only none board mover new place entry = none place (record {
    node = entry.node;
    there = entry.there;
    is_of = record {
      same_position = entry.is_of.same_position ∙ sym new.same_position;
      same_mover = entry.is_of.same_mover
          ∙ sym new.same_mover;
    };
  })

  pub distinct-more : AreDistinctEntries nodes → HasNoEntry nodes node.heading.position node.heading.to_move
      → AreDistinctEntries (nodes ++ node ∷ [])
  distinct-more distinct none board mover one other first second = ⊎_elim
      (λ a. ⊎_elim (λ b. distinct board mover one other a b) (λ b. absurd (new-only none board mover b.1 one a))
      (entry-cases board mover other second))
      (λ a. ⊎_elim (λ b. absurd (new-only none board mover a.1 other b)) (λ b. a.0 ∙ sym b.0) (entry-cases board mover other second))
      (entry-cases board mover one first)

  -- the node at the end is the first entry, where its position and mover had none
  pub first-last : HasNoEntry nodes node.heading.position node.heading.to_move
      → IsFirstEntry (nodes ++ node ∷ []) node.heading.position node.heading.to_move (length nodes)
  first-last none = record {
    entry = entry-last;
    first = λ earlier less entry. ⊎_elim
        (λ was. none earlier was)
        (λ last. absurd (omega (arith, less, last.0)))
        (entry-cases node.heading.position node.heading.to_move earlier entry);
  }

-- what was stored has a first entry at the answered place
pub first-stored : (slots : ℕ) (old new : List Node) (node : Node) (place : ℕ) → IsStored slots old node place new
    → IsFirstEntry new node.heading.position node.heading.to_move place
first-stored slots old new node place stored = ⊎_elim
    (λ (there : IsThere old node place new). rw there.same there.first)
    (λ (added : IsAdded slots old node place new). rw (added.grown, added.last) (first-last old node added.none))
    stored
