-- Rings of nodes, linked in both directions in two lists. A node is a number. Some nodes are heads, each of a ring of
-- its own, and the linked nodes stand in the ring of their head, in rising order from it. These words are for the
-- functions inside the crate alone.
use Rattle.std.specs.Prelude.{◌≡◌, ℕ, ◌-◌, ◌<◌, ◌≤◌, List, [], ◌∷◌, ◌++◌, length, take, slice_set, slice_index, ◌⊎◌}

-- on the way up from one node to another, and at the end back to the lowest, this node does not lie between the two
abbrev pub IsNotBetween : ℕ → ℕ → ℕ → Type 0
IsNotBetween from node to = (from < to → (node ≤ from) ⊎ (to ≤ node)) × (to ≤ from → (to ≤ node) × (node ≤ from))

-- the next and the previous node of each linked node are those beside it in the ring of its head
pub record AreRings (head_of next previous : ℕ → ℕ) (Linked : ℕ → Type 0) : Type 0 where
  pub head_linked : (node : ℕ) → Linked node → Linked (head_of node)
  pub head_own : (node : ℕ) → Linked node → head_of (head_of node) ≡ head_of node
  pub above : (node : ℕ) → Linked node → head_of node ≤ node
  pub next_linked : (node : ℕ) → Linked node → Linked (next node)
  pub previous_linked : (node : ℕ) → Linked node → Linked (previous node)
  pub same_head : (node : ℕ) → Linked node → head_of (next node) ≡ head_of node
  pub back : (node : ℕ) → Linked node → previous (next node) ≡ node
  pub forth : (node : ℕ) → Linked node → next (previous node) ≡ node
  pub clear : (node other : ℕ) → Linked node → Linked other → head_of other ≡ head_of node
      → IsNotBetween node other (next node)

-- the two lists: at each node's place the node after it, and the node before it
pub record Rings : Type 0 where
  pub next : List ℕ
  pub previous : List ℕ

-- a node taken out: its neighbours are joined, and it keeps its own entries
abbrev pub unlinked : Rings → ℕ → Rings
unlinked rings node =
    let before = slice_index rings.previous node in
    let after = slice_index rings.next node in
    record { next = slice_set rings.next before after; previous = slice_set rings.previous after before }

-- a node put back between the neighbours that it remembers
abbrev pub relinked : Rings → ℕ → Rings
relinked rings node =
    let before = slice_index rings.previous node in
    let after = slice_index rings.next node in
    record { next = slice_set rings.next before node; previous = slice_set rings.previous after node }

-- a new node at the end of a ring
abbrev pub grown : Rings → ℕ → Rings
grown rings head =
    let before = slice_index rings.previous head in
    let node = length rings.next in
    record {
      next = slice_set rings.next before node ++ head ∷ [];
      previous = slice_set rings.previous head node ++ before ∷ [];
    }

-- the last node taken away
abbrev pub cut : Rings → Rings
cut rings =
    let node = length rings.next - 1 in
    let out = unlinked rings node in
    record { next = take node out.next; previous = take node out.previous }

-- the entries of a node lead to nodes
pub record IsInside (rings : Rings) (node : ℕ) : Type 0 where
  pub as_long : length rings.previous ≡ length rings.next
  pub small : node < length rings.next
  pub before_inside : slice_index rings.previous node < length rings.next
  pub after_inside : slice_index rings.next node < length rings.next
