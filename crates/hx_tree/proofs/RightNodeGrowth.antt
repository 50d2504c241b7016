-- A node that is right after some headings is right after these and more: the headings that its rule speaks of keep
-- their places. So a node that is right after the front of a list of nodes is right after the whole list.
use Rattle.std.proofs.Common.{◌≡◌, ℕ, zero, suc, List, [], ◌∷◌, ◌++◌, take, drop, sym, ap, ◌∙◌, subst, Option, None, Some}
use Rattle.std.specs.Prelude.{slice_get, IfSome, IsSomeAnd}
use Rattle.std.proofs.lemmas.List.{take-append-drop}
use Rattle.hx_board.proofs.ListLaws.{get-append}
use Rattle.hx_link.specs.declared.links.Link.{Link}
use Rattle.hx_tree.specs.declared.nodes.Heading.{Heading}
use Rattle.hx_tree.specs.declared.nodes.Line.{Line}
use Rattle.hx_tree.specs.declared.nodes.Line.TheVariants.{Child, Under}
use Rattle.hx_tree.specs.declared.nodes.Node.{Node}
use Rattle.hx_tree.specs.declared.nodes.Rule.{Rule}
use Rattle.hx_tree.specs.declared.nodes.Rule.TheVariants.{Chain, Links, Move, All, Fill, Turned}
use Rattle.hx_tree.specs.Answers.{IsRightLine}
use Rattle.hx_tree.specs.Turns.{IsTurnedHeading}
use Rattle.hx_tree.specs.Rules.{IsRightRule, IsRightNode}
use Rattle.hx_tree.specs.Trees.{headings_of}
use Rattle.hx_tree.proofs.TreeGrowth.{headings_of-append}

-- a fact of an earlier heading stays one
some_and-append : (P : Heading → Type 0) (headings more : List Heading) (k : ℕ) → IsSomeAnd (slice_get headings k) P
    → IsSomeAnd (slice_get (headings ++ more) k) P
some_and-append P [] more k is = absurd is
some_and-append P (first ∷ headings) more zero is = is
some_and-append P (first ∷ headings) more (suc k) is = some_and-append P headings more k is

module _ (before more : List Heading) (heading : Heading) where
  module _ (links : List Link) (threats : List ℕ) (lines : List Line) where
    line-append : (line : Line) → IsRightLine before heading links threats lines line
        → IsRightLine (before ++ more) heading links threats lines line
    line-append (Child cell child) right =
        get-append before more child _ right
    line-append (Under cell better kill) right = right

    found-append : (found : Option Line) → IfSome found (IsRightLine before heading links threats lines)
        → IfSome found (IsRightLine (before ++ more) heading links threats lines)
    found-append None right = right
    found-append (Some line) right = line-append line right

  rule-append : (rule : Rule) → IsRightRule before heading rule → IsRightRule (before ++ more) heading rule
  rule-append Chain right = right
  rule-append (Links steps) right = right
  rule-append (Move cell child) right = record {
    mover = right.mover;
    empty = right.empty;
    leads = get-append before more child _ right.leads;
  }
  rule-append (All steps threats lines) right = record {
    mover = right.mover;
    some = right.some;
    some_empty = right.some_empty;
    links = right.links;
    steps_right = right.steps_right;
    threats_right = right.threats_right;
    cells = right.cells;
    lines_right = λ k. found-append right.links threats lines (slice_get lines k) (right.lines_right k);
  }
  rule-append (Fill steps child) right = record {
    some = right.some;
    right = right.right;
    leads = get-append before more child _ right.leads;
  }
  rule-append (Turned child) right = some_and-append (IsTurnedHeading heading) before more child right

pub right_node-append : (before more : List Heading) (node : Node) → IsRightNode before node → IsRightNode (before ++ more) node
right_node-append before more node right = record { board = right.board; rule = rule-append before more node.heading node.rule right.rule }

-- a node that is right after the first nodes of a list is right after all of them
pub right_node-whole : (nodes : List Node) (count : ℕ) (node : Node) → IsRightNode (headings_of (take count nodes)) node
    → IsRightNode (headings_of nodes) node
right_node-whole nodes count node right =
    let whole : headings_of (take count nodes) ++ headings_of (drop count nodes) ≡ headings_of nodes =
    sym (headings_of-append (take count nodes) (drop count nodes)) ∙ ap headings_of (take-append-drop count nodes) in
    subst (λ (before : List Heading). IsRightNode before node) whole
    (right_node-append (headings_of (take count nodes)) (headings_of (drop count nodes)) node right)
