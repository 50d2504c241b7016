-- A list to which right nodes are added is one that goes on from it, is right and small enough, and is plain where each
-- of these is.
use Rattle.std.proofs.Common.{◌≡◌, ◌<◌, ◌≤◌, ℕ, Bool, true, List, [], ◌∷◌, ◌++◌, length, sym, ap, ◌∙◌, subst, arith, Option, Some, None, length-append}
use Rattle.std.specs.Prelude.{slice_get, option_map, IfSome, IfNone}
use Rattle.std.proofs.lemmas.List.{length-map}
use Rattle.std.proofs.lemmas.List.Elements.{All-push}
use Rattle.std.proofs.lemmas.Option.{slice_get-map, slice_get_within, get_or_from_slice_get}
use Rattle.hx_board.proofs.ListLaws.{get-append_before, get-push_last}
use Rattle.hx_tree.specs.declared.checkers.TheConstants.{MOST_NODES}
use Rattle.hx_tree.specs.declared.nodes.Heading.{Heading}
use Rattle.hx_tree.specs.declared.nodes.Node.{Node}
use Rattle.hx_tree.specs.Entries.{Extends}
use Rattle.hx_tree.specs.Plain.{IsPlain, ArePlain}
use Rattle.hx_tree.specs.Rules.{IsRightNode}
use Rattle.hx_tree.specs.Trees.{AreRight, headings_of}
use Rattle.hx_tree.proofs.EntryLaws.{extends-itself, extends-on}
use Rattle.hx_tree.proofs.TreeGrowth.{headings_of-append, one_more_right}
use Rattle.hx_naming.specs.Added.{IsMore, IsPushed, IsGrown, HasHeadingOf}

pub more-itself : (must : Bool) (nodes : List Node) → AreRight nodes → length nodes ≤ MOST_NODES → IsMore must nodes nodes
more-itself must nodes right few = record {
  after = extends-itself nodes;
  right = right;
  few = few;
  plain = λ _ plain. plain;
}

pub more-on : {must : Bool} {first second third : List Node} → IsMore must first second → IsMore must second third
    → IsMore must first third
more-on {must} {first} {second} {third} one other = record {
  after = extends-on first second third one.after other.after;
  right = other.right;
  few = other.few;
  plain = λ is plain. other.plain is (one.plain is plain);
}

pub pushed-more : (must : Bool) (old : List Node) (node : Node) (place : ℕ) (new : List Node) (headings : List Heading) → AreRight old
    → length old < MOST_NODES → IsRightNode (headings_of old) node → (must ≡ true → IsPlain node)
    → IsPushed old node place new headings → IsMore must old new
pushed-more must old node place new headings right less next plain is = record {
  after = (node ∷ [], is.grown);
  right = subst AreRight (sym is.grown) (one_more_right old node right next);
  few = omega (arith, ap (λ (ns : List Node). length ns) is.grown, length-append old (node ∷ []));
  plain = λ must_be all. subst ArePlain (sym is.grown) (All-push IsPlain old node all (plain must_be));
}

-- whether the node was pushed or the list is as before
pub added-more : (must : Bool) (old : List Node) (node : Node) (new : List Node) (headings : List Heading) (found : Option ℕ)
    → AreRight old → length old < MOST_NODES → IsRightNode (headings_of old) node → (must ≡ true → IsPlain node)
    → IfSome found (λ place. IsPushed old node place new headings) → IfNone found (new ≡ old) → IsMore must old new
added-more must old node new headings (Some place) right less next plain pushed same =
    pushed-more must old node place new headings right less next plain pushed
added-more must old node new headings None right less next plain pushed same =
    subst (IsMore must old) (sym same) (more-itself must old right (omega (arith, less)))

-- ---- the node at the root

pub root-plain : (old : List Node) (root : ℕ) (node : Node) → slice_get old root ≡ Some node → ArePlain old → IsPlain node
root-plain old root node there plain =
    subst IsPlain (get_or_from_slice_get old root node node there) (plain root node (slice_get_within old root node there))

pub more-grown : {must : Bool} {old new : List Node} → IsMore must old new → (ArePlain old → must ≡ true) → IsGrown old new
more-grown {must} {old} {new} more must_be = record {
  after = more.after;
  right = more.right;
  few = more.few;
  plain = λ plain. more.plain (must_be plain) plain;
}

heading-at : (nodes : List Node) (k : ℕ) (node : Node) → slice_get nodes k ≡ Some node
    → slice_get (headings_of nodes) k ≡ Some node.heading
heading-at nodes k node there =
    slice_get-map (λ (n : Node). n.heading) nodes k ∙ ap (option_map (λ (n : Node). n.heading)) there

-- the node that was pushed last, which has the heading of the root
last-heading : (old middle new : List Node) (root place : ℕ) (node last : Node) (headings : List Heading)
    → slice_get old root ≡ Some node → last.heading ≡ node.heading → IsPushed middle last place new headings
    → HasHeadingOf old root new place
last-heading old middle new root place node last headings there same is =
    let at_end : slice_get (middle ++ last ∷ []) place ≡ Some last =
    subst (λ (k : ℕ). slice_get (middle ++ last ∷ []) k ≡ Some last) (sym is.last) (get-push_last middle last) in
    let at_place : slice_get new place ≡ Some last =
    subst (λ (nodes : List Node). slice_get nodes place ≡ Some last) (sym is.grown) at_end in
    record {
      inside = slice_get_within new place last at_place;
      same_heading = heading-at new place last at_place ∙ ap Some same ∙ sym (heading-at old root node there);
    }

pub some-heading : (old middle new : List Node) (root : ℕ) (node last : Node) (headings : List Heading) (found : Option ℕ)
    → slice_get old root ≡ Some node → last.heading ≡ node.heading
    → IfSome found (λ place. IsPushed middle last place new headings) → IfSome found (HasHeadingOf old root new)
some-heading old middle new root node last headings (Some place) there same is =
    last-heading old middle new root place node last headings there same is
some-heading old middle new root node last headings None there same is = tt

-- a heading stays where nodes are added behind it
pub heading-stays : (old new : List Node) (root : ℕ) → Extends old new → root < length old
    → slice_get (headings_of new) root ≡ slice_get (headings_of old) root
heading-stays old new root more less =
    ap (λ (nodes : List Node). slice_get (headings_of nodes) root) more.1
    ∙ ap (λ (headings : List Heading). slice_get headings root) (headings_of-append old more.0)
    ∙ get-append_before (headings_of old) (headings_of more.0) root (omega (arith, less, length-map old (λ (n : Node). n.heading)))
