-- The tree of an entry has plain nodes alone, where the list that it is taken out of has. A node stays plain under new
-- numbers for its children.
use Rattle.std.proofs.Common.{◌≡◌, ℕ, ◌<◌, ◌≤◌, List, [], ◌∷◌, map, length, get_or, Option, Some, None, arith}
use Rattle.std.specs.Prelude.{slice_get, option_map, IfSome, Result, Ok, Err, IfOk}
use Rattle.std.proofs.lemmas.List.{length-map}
use Rattle.std.proofs.lemmas.Option.{slice_get-get_or, slice_get_within, slice_get-map, get_or_from_slice_get}
use Rattle.hx_tree.specs.declared.nodes.Line.{Line}
use Rattle.hx_tree.specs.declared.nodes.Line.TheVariants.{Child, Under}
use Rattle.hx_tree.specs.declared.nodes.Node.{Node}
use Rattle.hx_tree.specs.declared.nodes.Rule.{Rule}
use Rattle.hx_tree.specs.declared.nodes.Rule.TheVariants.{Chain, Links, Move, All, Fill, Turned}
use Rattle.hx_tree.specs.Plain.{IsChildLine, AreChildLines, IsPlainRule, ArePlain}
use Rattle.hx_tree.specs.Trees.{headings_of, AreRight}
use Rattle.hx_book.specs.Trees.{LeadsTo, IsNeeded, IsTreeOf, renamed_line, renamed_rule, renamed_node}
use Rattle.hx_book.proofs.ChildLaws.{child-before}

line-plain : (name : ℕ → ℕ) (line : Line) → IsChildLine line → IsChildLine (renamed_line name line)
line-plain name (Child cell child) is = is
line-plain name (Under cell better kill) is = absurd is

some-plain : (name : ℕ → ℕ) (found : Option Line) → IfSome found IsChildLine → IfSome (option_map (renamed_line name) found) IsChildLine
some-plain name None is = tt
some-plain name (Some line) is = line-plain name line is

lines-plain : (name : ℕ → ℕ) (lines : List Line) → AreChildLines lines → AreChildLines (map (renamed_line name) lines)
lines-plain name lines all k = rw (slice_get-map (renamed_line name) lines k) (some-plain name (slice_get lines k) (all k))

rule-plain : (name : ℕ → ℕ) (rule : Rule) → IsPlainRule rule → IsPlainRule (renamed_rule name rule)
rule-plain name Chain is = is
rule-plain name (Links steps) is = is
rule-plain name (Move cell child) is = is
rule-plain name (All steps threats lines) is = lines-plain name lines is
rule-plain name (Fill steps child) is = absurd is
rule-plain name (Turned child) is = absurd is

-- a needed node does not stand above the root
needed-under : (nodes : List Node) → AreRight nodes → (path : List ℕ) (root place : ℕ) → LeadsTo nodes root path place → place ≤ root
needed-under nodes right [] root place leads = omega (arith, leads)
needed-under nodes right (next ∷ path) root place leads =
    omega (
      arith,
      needed-under nodes right path next place leads.1,
      child-before nodes right root leads.0.node leads.0.there next leads.0.names,
    )

pub tree-plain : (nodes : List Node) → AreRight nodes → (root : ℕ) (tree : List Node) → IsTreeOf nodes root tree → ArePlain nodes
    → ArePlain tree
tree-plain nodes right root tree is plain k default less =
    let place : ℕ = get_or is.places k 0 in
    let at : slice_get is.places k ≡ Some place = slice_get-get_or is.places k 0 (omega (arith, is.needed.as_many, less)) in
    let need : IsNeeded nodes root place = is.needed.needed k place at in
    let inside : place < length nodes = omega (
      arith,
      needed-under nodes right need.0 root place need.1,
      slice_get_within (headings_of nodes) root is.root.heading is.same_heading,
      length-map nodes (λ (n : Node). n.heading),
    ) in
    let node : Node = get_or nodes place default in
    let there : slice_get nodes place ≡ Some node = slice_get-get_or nodes place default inside in
    rw (get_or_from_slice_get tree k (renamed_node is.name node) default (is.needed.same_node k place node at there))
    (rule-plain is.name node.rule (plain place default inside))

pub if_ok-plain : {T E : Type 0} → (items : T → List Node) (nodes : List Node) → AreRight nodes → (root : ℕ) (result : Result T E)
    → IfOk result (λ tree. IsTreeOf nodes root (items tree)) → ArePlain nodes → IfOk result (λ tree. ArePlain (items tree))
if_ok-plain items nodes right root (Ok tree) is plain = tree-plain nodes right root (items tree) is plain
if_ok-plain items nodes right root (Err error) is plain = tt
