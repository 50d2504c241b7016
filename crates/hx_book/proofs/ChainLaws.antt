-- The chain of a bucket, walked from its head: below the link that was reached stands what was not looked at yet. What
-- is looked for is a property of nodes, and each node that has it is in the bucket.
use Rattle.std.proofs.Common.{◌≡◌, ◌≢◌, ℕ, ◌-◌, ◌<◌, ◌≤◌, List, length, get_or, sym, ◌∙◌, subst, ⊎_elim, arith, Some, refl}
use Rattle.std.proofs.lemmas.Option.{slice_get_read, slice_get_within, same_Some}
use Rattle.std.specs.Prelude.{slice_get, slice_index}
use Rattle.std.proofs.lemmas.Bool.{cases_lt, cases_eq}
use Rattle.hx_tree.specs.declared.nodes.Node.{Node}
use Rattle.hx_book.specs.Chains.{IsIn, IsNewestBelow, AreChains}

-- how far a search in a bucket has come: nodes with the property stand below the link alone
pub record IsReached (key : Node → ℕ) (nodes : List Node) (bucket : ℕ) (Has : Node → Type 0) (link : ℕ) : Type 0 where
  pub within : link ≤ length nodes
  pub is_in : 0 < link → IsIn key nodes bucket (link - 1)
  pub none : (place : ℕ) → link ≤ place → (node : Node) → slice_get nodes place ≡ Some node → Has node → ⊥

-- the node that was read lacks the property, and so does the one that stands there
other-read : (nodes : List Node) (Has : Node → Type 0) (place : ℕ) (node : Node) → place < length nodes → node ≡ get_or nodes place node
    → (Has node → ⊥) → (there : Node) → slice_get nodes place ≡ Some there → Has there → ⊥
other-read nodes Has place node inside read lacks there stands has =
    let same : there ≡ node = same_Some there node (sym stands ∙ slice_get_read nodes _ place node refl inside read) in
    lacks (subst Has same has)

module _ (key : ℕ → Node → ℕ) (nodes : List Node) (heads next : List ℕ) (chains : AreChains key nodes heads next) (Has : Node → Type 0)
    (bucket : ℕ) (has_bucket : (node : Node) → Has node → key (length heads) node ≡ bucket) where
  abbrev own : Node → ℕ
  own = key (length heads)

  has-in : (place : ℕ) (node : Node) → slice_get nodes place ≡ Some node → Has node → IsIn own nodes bucket place
  has-in place node there has = record { node = node; there = there; same_bucket = has_bucket node has }

  pub reached-begun : (link : ℕ) → bucket < length heads → link ≡ slice_index heads bucket → IsReached own nodes bucket Has link
  reached-begun link below read =
      let first : IsNewestBelow own nodes bucket (length nodes) link = rw read (chains.heads_lead bucket below) in
      record {
        within = first.within;
        is_in = first.is_in;
        none = λ place from node there has. first.newest place from (slice_get_within nodes place node there) (has-in place node there has);
      }

  module _ (link : ℕ) (some : link ≢ 0) (reached : IsReached own nodes bucket Has link) (node : Node)
      (node_read : node ≡ get_or nodes (link - 1) node) where
    inside : link - 1 < length nodes
    inside = omega (arith, reached.within, some)

    module _ (lacks : Has node → ⊥) (older : ℕ) (read : older ≡ slice_index next (link - 1)) where
      is_older : IsNewestBelow own nodes bucket (link - 1) older
      is_older =
          let positive : 0 < link = omega (arith, some) in
          rw read (chains.next_lead bucket (link - 1) (reached.is_in positive))

      pub older-less : older < link
      older-less = omega (arith, is_older.within, some)

      pub reached-more : IsReached own nodes bucket Has older
      reached-more = record {
        within = omega (arith, is_older.within, reached.within);
        is_in = is_older.is_in;
        none = λ place from found there has. ⊎_elim
            (λ below. is_older.newest place from below (has-in place found there has))
            (λ above. ⊎_elim
            (λ (same : place ≡ link - 1).
            other-read nodes Has (link - 1) node inside node_read lacks found
            (subst (λ (p : ℕ). slice_get nodes p ≡ Some found) same there) has)
            (λ (different : place ≡ link - 1 → ⊥). reached.none place (omega (arith, above, different)) found there has)
            (cases_eq place (link - 1)))
            (cases_lt place (link - 1));
      }

-- the node that is read stands one below the link
pub reached-there : (key : Node → ℕ) (nodes : List Node) (bucket : ℕ) (Has : Node → Type 0) (link : ℕ) → link ≢ 0
    → IsReached key nodes bucket Has link
    → (node : Node) → node ≡ get_or nodes (link - 1) node → slice_get nodes (link - 1) ≡ Some node
reached-there key nodes bucket Has link some reached node read =
    let inside : link - 1 < length nodes = omega (arith, reached.within, some) in
    slice_get_read nodes _ (link - 1) node refl inside read

-- at the end of the chain there is nothing below
pub reached-end : (key : Node → ℕ) (nodes : List Node) (bucket : ℕ) (Has : Node → Type 0) (link : ℕ) → link ≡ 0
    → IsReached key nodes bucket Has link
    → (place : ℕ) (node : Node) → slice_get nodes place ≡ Some node → Has node → ⊥
reached-end key nodes bucket Has link end reached place node there has = reached.none place (omega (arith, end)) node there has
