-- The marks from the root down. At each place below it the children of a marked node are marked, so at the end a marked
-- node has no child without a mark.
use Rattle.std.proofs.Common.{◌≡◌, ℕ, ◌+◌, ◌<◌, ◌≤◌, List, [], ◌∷◌, length, refl, sym, ◌∙◌, subst, Some, Bool, ⊎_elim, arith}
use Rattle.std.specs.Prelude.{slice_get}
use Rattle.std.proofs.lemmas.Bool.{cases_eq}
use Rattle.std.proofs.lemmas.Option.{same_Some}
use Rattle.hx_tree.specs.declared.nodes.Node.{Node}
use Rattle.hx_tree.specs.Trees.{AreRight}
use Rattle.hx_book.specs.Trees.{Names, HasChildAt, LeadsTo, IsNeeded}
use Rattle.hx_book.specs.Renaming.{IsMarked, AreUnmarked, MarksMore, AreMarkedFrom}
use Rattle.hx_book.proofs.ChildLaws.{child-before, leads-further}

pub marked-begun : (nodes : List Node) (root : ℕ) (none marks : List Bool) → AreUnmarked (length nodes) none
    → MarksMore (λ (other : ℕ). other ≡ root) none marks
    → AreMarkedFrom nodes root (root + 1) marks
marked-begun nodes root none marks empty more =
    let only : (place : ℕ) → IsMarked marks place → place ≡ root = λ place h.
    ⊎_elim (λ was. absurd (empty.none place was)) (λ same. same) (more.only place h) in
    record {
      long = more.long ∙ empty.long;
      root_marked = more.each root refl;
      under = λ place h. omega (arith, only place h);
      needed = λ place h. ([], sym (only place h));
      closed = λ place child from h has. absurd (omega (arith, only place h, from));
    }

module _ (nodes : List Node) (right : AreRight nodes) (root bound : ℕ) (marks : List Bool)
    (marked : AreMarkedFrom nodes root (bound + 1) marks) where
  pub marked-skip : (IsMarked marks bound → ⊥) → AreMarkedFrom nodes root bound marks
  marked-skip none = record {
    long = marked.long;
    root_marked = marked.root_marked;
    under = marked.under;
    needed = marked.needed;
    closed = λ place child from h has. ⊎_elim
        (λ (same : place ≡ bound). absurd (none (subst (λ (p : ℕ). IsMarked marks p) same h)))
        (λ (different : place ≡ bound → ⊥). marked.closed place child (omega (arith, from, different)) h has)
        (cases_eq place bound);
  }

  module _ (node : Node) (there : slice_get nodes bound ≡ Some node) (here : IsMarked marks bound) (new : List Bool)
      (more : MarksMore (Names node.rule) marks new) where
    before : (child : ℕ) → Names node.rule child → child < bound
    before child names = child-before nodes right bound node there child names

    needed_more : (place : ℕ) → IsMarked new place → IsNeeded nodes root place
    needed_more place h = ⊎_elim
        (λ was. marked.needed place was)
        (λ names. let need = marked.needed bound here in
        leads-further nodes need.0 root bound place need.1 (record { node = node; there = there; names = names }))
        (more.only place h)

    own_child : (child : ℕ) → HasChildAt nodes bound child → IsMarked new child
    own_child child has =
        more.each child (subst (λ (n : Node). Names n.rule child) (same_Some has.node node (sym has.there ∙ there)) has.names)

    closed_more : (place child : ℕ) → bound ≤ place → IsMarked new place → HasChildAt nodes place child → IsMarked new child
    closed_more place child from h has = ⊎_elim
        (λ (same : place ≡ bound). own_child child (subst (λ (p : ℕ). HasChildAt nodes p child) same has))
        (λ (different : place ≡ bound → ⊥). ⊎_elim
        (λ was. more.stay child (marked.closed place child (omega (arith, from, different)) was has))
        (λ names. absurd (omega (arith, before place names, from)))
        (more.only place h))
        (cases_eq place bound)

    pub marked-more : AreMarkedFrom nodes root bound new
    marked-more = record {
      long = more.long ∙ marked.long;
      root_marked = more.stay root marked.root_marked;
      under = λ place h. ⊎_elim (λ was. marked.under place was) (λ names. omega (arith, before place names, marked.under bound here))
          (more.only place h);
      needed = needed_more;
      closed = closed_more;
    }

-- all that the root needs is marked, once the children of all marked nodes are
pub needed-marked : (nodes : List Node) (root : ℕ) (marks : List Bool) → AreMarkedFrom nodes root 0 marks
    → (first place : ℕ) (path : List ℕ) → IsMarked marks first
    → LeadsTo nodes first path place → IsMarked marks place
needed-marked nodes root marks marked first place [] here leads = subst (λ (p : ℕ). IsMarked marks p) leads here
needed-marked nodes root marks marked first place (next ∷ path) here leads =
    needed-marked nodes root marks marked next place path (marked.closed first next (omega arith) here leads.0) leads.1
