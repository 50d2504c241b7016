-- What each step of the book keeps, and that the book only grows. A step lets the list grow or leaves it, and then some
-- worker has seen so many nodes.
use Rattle.std.proofs.Common.{◌≡◌, ℕ, ◌+◌, ◌<◌, ◌≤◌, List, [], ◌∷◌, ◌++◌, length, max, refl, sym, ap, ◌∙◌, subst, ⊎_elim, arith}
use Rattle.std.proofs.Common.{length-append}
use Rattle.std.specs.Prelude.{take}
use Rattle.std.proofs.lemmas.List.{length-replicate, length-set, append-nil}
use Rattle.hx_board.specs.declared.colours.Colour.{Colour}
use Rattle.hx_board.specs.Positions.{Board}
use Rattle.hx_tree.specs.declared.nodes.Node.{Node}
use Rattle.hx_tree.specs.Entries.{HasNoEntry, Extends, IsThere, IsAdded, IsStored}
use Rattle.hx_tree.specs.Rules.{IsRightNode}
use Rattle.hx_tree.specs.Trees.{headings_of}
use Rattle.hx_tree.proofs.EntryLaws.{distinct-more}
use Rattle.hx_tree.proofs.TreeGrowth.{one_more_right}
use Rattle.hx_tree.proofs.RightNodeGrowth.{right_node-whole}
use Rattle.hx_core.specs.declared.events.Reply.{Reply}
use Rattle.hx_core.specs.declared.events.Reply.TheVariants.{Looked, Stored, NoSlot}
use Rattle.hx_core.specs.BookMachine.{BookState, book_start, seen_by, with_seen, with_all_seen, told, LookStep, StoreStep}
use Rattle.hx_core.specs.Runs.{IsBook}
use Rattle.hx_core.proofs.ListChanges.{set-le, le-set}
use Rattle.hx_count.proofs.MachineLaws.{get-copies}

pub book-begun : (workers slots : ℕ) → IsBook workers slots (book_start slots workers)
book-begun workers slots = record {
  same_workers = length-replicate workers 0;
  same_slots = refl;
  held = omega arith;
  right = λ k. tt;
  distinct = λ board mover one other first second. cc (first.there);
  seen = λ worker. get-copies (λ (n : ℕ). n ≤ 0) workers 0 0 worker (omega arith) (omega arith);
}

-- the later list begins with the earlier one, and each worker has seen as much or more
pub record BookGrows (old new : BookState) : Type 0 where
  pub extends : Extends old.nodes new.nodes
  pub seen : (worker : ℕ) → seen_by old worker ≤ seen_by new worker

abbrev with_nodes : BookState → List Node → BookState
with_nodes book nodes = record book { nodes = nodes }

module _ (workers slots : ℕ) (book : BookState) (kept : IsBook workers slots book) where
  pub seen-kept : (worker count : ℕ) → count ≤ length book.nodes → IsBook workers slots (with_seen book worker count)
  seen-kept worker count few = record {
    same_workers = length-set book.seen worker count ∙ kept.same_workers;
    same_slots = kept.same_slots;
    held = kept.held;
    right = kept.right;
    distinct = kept.distinct;
    seen = set-le book.seen worker count (length book.nodes) kept.seen few;
  }

  pub seen-grows : (worker count : ℕ) → seen_by book worker ≤ count → BookGrows book (with_seen book worker count)
  seen-grows worker count more = record { extends = ([], sym (append-nil book.nodes)); seen = le-set book.seen worker count more }

  pub all_seen-kept : (worker : ℕ) → IsBook workers slots (with_all_seen book book.nodes worker)
  all_seen-kept worker = seen-kept worker (length book.nodes) (omega arith)

  pub all_seen-grows : (worker : ℕ) → BookGrows book (with_all_seen book book.nodes worker)
  all_seen-grows worker = seen-grows worker (length book.nodes) (kept.seen worker)

  pub told-kept : (from to : ℕ) → IsBook workers slots (told book from to)
  told-kept from to = seen-kept to (max (seen_by book from) (seen_by book to)) (omega (arith, kept.seen from, kept.seen to))

  pub told-grows : (from to : ℕ) → BookGrows book (told book from to)
  told-grows from to = seen-grows to (max (seen_by book from) (seen_by book to)) (omega arith)

  pub node-kept : (node : Node) → length book.nodes < book.slots → IsRightNode (headings_of book.nodes) node
      → HasNoEntry book.nodes node.heading.position node.heading.to_move
      → IsBook workers slots (with_nodes book (book.nodes ++ node ∷ []))
  node-kept node room right none =
      let longer : length (book.nodes ++ node ∷ []) ≡ length book.nodes + 1 = length-append book.nodes (node ∷ []) in record {
        same_workers = kept.same_workers;
        same_slots = kept.same_slots;
        held = omega (arith, longer, room, kept.same_slots);
        right = one_more_right book.nodes node kept.right right;
        distinct = distinct-more book.nodes node kept.distinct none;
        seen = λ worker. omega (arith, longer, kept.seen worker);
      }

  -- ---- a store

  module _ (worker : ℕ) (node : Node) (right : IsRightNode (headings_of (take (seen_by book worker) book.nodes)) node)
      (nodes : List Node) where
    stored-kept : (place : ℕ) → IsStored book.slots book.nodes node place nodes → IsBook workers slots (with_nodes book nodes)
    stored-kept place = ⊎_elim
        (λ (there : IsThere book.nodes node place nodes).
        subst (λ (ns : List Node). IsBook workers slots (with_nodes book ns)) (sym there.same) kept)
        (λ (added : IsAdded book.slots book.nodes node place nodes).
        subst (λ (ns : List Node). IsBook workers slots (with_nodes book ns)) (sym added.grown)
        (node-kept node added.room (right_node-whole book.nodes (seen_by book worker) node right) added.none))

    stored-extends : (place : ℕ) → IsStored book.slots book.nodes node place nodes → Extends book.nodes nodes
    stored-extends place = ⊎_elim
        (λ (there : IsThere book.nodes node place nodes). ([], there.same ∙ sym (append-nil book.nodes)))
        (λ (added : IsAdded book.slots book.nodes node place nodes). (node ∷ [], added.grown))

    longer-grows : Extends book.nodes nodes → BookGrows book (with_all_seen book nodes worker)
    longer-grows extends = record {
      extends = extends;
      seen = le-set book.seen worker (length nodes)
          (omega (arith, ap length extends.1, length-append book.nodes extends.0, kept.seen worker));
    }

module _ (workers slots : ℕ) (book : BookState) (kept : IsBook workers slots book) where
  module _ (worker : ℕ) (node : Node) (right : IsRightNode (headings_of (take (seen_by book worker) book.nodes)) node)
      (new : BookState) where
    abbrev IsKeptBook : BookState → Type 0
    IsKeptBook b = IsBook workers slots b

    pub store-kept : (reply : Reply) → StoreStep book worker node reply new → IsBook workers slots new
    store-kept (Stored place) step =
        subst IsKeptBook (sym step.1)
        (all_seen-kept workers slots (with_nodes book new.nodes)
        (stored-kept workers slots book kept worker node right new.nodes place step.0) worker)
    store-kept (NoSlot held) step =
        subst IsKeptBook (sym (step.1 ∙ ap (λ ns. with_all_seen book ns worker) step.0.same)) (all_seen-kept workers slots book kept worker)
    store-kept _ step = absurd step

    pub store-grows : (reply : Reply) → StoreStep book worker node reply new → BookGrows book new
    store-grows (Stored place) step =
        subst (BookGrows book) (sym step.1)
        (longer-grows workers slots book kept worker node right new.nodes
        (stored-extends workers slots book kept worker node right new.nodes place step.0))
    store-grows (NoSlot held) step =
        subst (BookGrows book) (sym (step.1 ∙ ap (λ ns. with_all_seen book ns worker) step.0.same))
        (all_seen-grows workers slots book kept worker)
    store-grows _ step = absurd step

  -- ---- a look

  module _ (worker : ℕ) (board : Board) (mover : Colour) (new : BookState) where
    pub look-kept : (reply : Reply) → LookStep book worker board mover reply new → IsBook workers slots new
    look-kept (Looked found) step =
        subst (λ (b : BookState). IsBook workers slots b) (sym step.1) (all_seen-kept workers slots book kept worker)
    look-kept _ step = absurd step

    pub look-grows : (reply : Reply) → LookStep book worker board mover reply new → BookGrows book new
    look-grows (Looked found) step = subst (BookGrows book) (sym step.1) (all_seen-grows workers slots book kept worker)
    look-grows _ step = absurd step
