-- What a store does to the list: it grows at its end, and the answered index is that of the first entry.
use Rattle.std.proofs.Common.{◌≡◌, ℕ, List, [], ◌∷◌, sym, ap, ◌∙◌, subst, ⊎_elim, append-nil, Result, Ok, Err}
use Rattle.std.specs.Prelude.{IfOk, IfErr}
use Rattle.hx_tree.specs.declared.nodes.Heading.{Heading}
use Rattle.hx_tree.specs.declared.nodes.Node.{Node}
use Rattle.hx_tree.specs.Rules.{IsRightNode}
use Rattle.hx_tree.specs.Trees.{headings_of}
use Rattle.hx_tree.specs.Entries.{Extends, HasNoEntry, IsFirstEntry, IsThere, IsAdded}
use Rattle.hx_tree.proofs.EntryLaws.{first-stored}
use Rattle.hx_tree.proofs.RightNodeGrowth.{right_node-append}
use Rattle.hx_tree.proofs.TreeGrowth.{headings_of-append}
use Rattle.hx_book.specs.Entries.{Contents, contents, IsBook}
use Rattle.hx_book.specs.Puts.{Refusal, Puts}

-- what is right after a list is right after each list that begins with it
pub right-later : (old new : List Node) (node : Node) → Extends old new → IsRightNode (headings_of old) node
    → IsRightNode (headings_of new) node
right-later old new node more right =
    subst (λ (before : List Heading). IsRightNode before node) (sym (ap headings_of more.1 ∙ headings_of-append old more.0))
    (right_node-append (headings_of old) (headings_of more.0) node right)

same-extends : (old new : List Node) → new ≡ old → Extends old new
same-extends old new same = ([], same ∙ sym (append-nil old))

module _ (slots : ℕ) (old : List Node) (node : Node) (new : List Node) where
  pub puts-extend : (result : Result ℕ Refusal) → Puts slots old node result new → Extends old new
  puts-extend (Ok place) puts = ⊎_elim
      (λ (there : IsThere old node place new). same-extends old new there.same)
      (λ (added : IsAdded slots old node place new). (node ∷ [], added.grown))
      puts
  puts-extend (Err refusal) puts = same-extends old new puts.0.same

  pub puts-first : (result : Result ℕ Refusal) → Puts slots old node result new
      → IfOk result (λ place. IsFirstEntry new node.heading.position node.heading.to_move place)
  puts-first (Ok place) puts = first-stored slots old new node place puts
  puts-first (Err refusal) puts = tt

  pub puts-none : (result : Result ℕ Refusal) → Puts slots old node result new
      → IfErr result (λ refusal. HasNoEntry new node.heading.position node.heading.to_move)
  puts-none (Ok place) puts = tt
  puts-none (Err refusal) puts =
      subst (λ (l : List Node). HasNoEntry l node.heading.position node.heading.to_move) (sym puts.0.same) puts.0.none

-- a book as contracts see it, by the number of its slots
pub book-at : (book : Contents) (room : ℕ) → IsBook book → book.slots ≡ room → IsBook (contents room book.nodes)
book-at book room is same = subst (λ (n : ℕ). IsBook (contents n book.nodes)) same is
